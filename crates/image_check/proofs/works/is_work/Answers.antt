use Rattle.image_check.proofs.WorkLemmas.{work_array, work_host}
use Rattle.image_check.proofs.works.is_work.Goals as goal

pub returns-in-Array : goal.returns-in-Array
returns-in-Array c =
    work_array c.args.columns c.args.port.now c.args.port.now.work c.in-Array.blocks _ c.in-Array.outs _ c.is_array.result c.in-Array.is c.as_slice-in-Array.ensures c.as_slice-in-Array-2.ensures c.is_array.ensures

pub returns-in-Host : goal.returns-in-Host
returns-in-Host c =
    work_host c.args.columns c.args.port.now c.args.port.now.work c.in-Host.inputs _ c.in-Host.printed _ c.is_host.result c.in-Host.is c.as_slice-in-Host.ensures c.as_slice-in-Host-2.ensures c.is_host.ensures
