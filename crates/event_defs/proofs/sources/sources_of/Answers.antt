use Rattle.std.proofs.Common.{◌≡◌, length, subst, arith}
use Rattle.std.proofs.lemmas.Option.{slice_get-get_or}
use Rattle.image_defs.specs.declared.image.LinkIn.{LinkIn}
use Rattle.event_defs.specs.Sources.{AreSources}
use Rattle.event_defs.proofs.SourceLemmas.{link_in, ins_of, sources_more}
use Rattle.event_defs.proofs.sources.sources_of.Goals as goal

abbrev no_link : LinkIn
no_link = record { slot = 0; sender = 0 }

pub source_of-requires-clause-there : goal.source_of-requires-clause-there
source_of-requires-clause-there c =
    link_in c.args.image.now c.requires.image c.as_slice.result.now c.as_slice.ensures c.args.p c.requires.there c.index-as_slice-p.result c.index-as_slice-p.is c.as_slice-ins.result.now c.as_slice-ins.ensures c.ins.j no_link c.ins-test.true

pub ins-preserved : goal.ins-preserved
ins-preserved c =
    sources_more c.args.image.now c.requires.image c.as_slice-ins.result.now c.ins.j c.source_of.result _ c.ins.sources c.push.new.self (slice_get-get_or c.as_slice-ins.result.now c.ins.j no_link c.ins-test.true) c.source_of.ensures c.ins.invariant c.in_ok-push.ensures.ok

pub returns : goal.returns
returns c port is =
    let end = c.ins-test.false in
    let upto = c.ins.auto.j-end in
    let all : c.ins.j ≡ length c.as_slice-ins.result.now = omega arith in
    subst (λ ins. AreSources c.args.image.now ins (length ins) c.ins.sources)
    (ins_of c.args.image.now c.requires.image c.as_slice.result.now c.as_slice.ensures c.args.p c.requires.there c.index-as_slice-p.result c.index-as_slice-p.is c.as_slice-ins.result.now c.as_slice-ins.ensures port is)
    (subst (λ n. AreSources c.args.image.now c.as_slice-ins.result.now n c.ins.sources) all c.ins.invariant)
