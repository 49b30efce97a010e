use Rattle.std.proofs.Common.{◌≡◌, false, map, sym, ◌∙◌, refl, bytes_eq}
use Rattle.std.proofs.lemmas.Bool.{not-true}
use Rattle.bench_read.proofs.Common.{list_any, map_push, DrivenName, named_by}
use Rattle.bench_read.proofs.TwiceLemmas.{names_same, repeat_none}
use Rattle.bench_read.proofs.drivers.drive_one.Goals as goal

pub returns : goal.returns
returns c =
    let drivers = c.args.drivers.now in
    let new : list_any (bytes_eq c.args.name.now) c.args.names.now ≡ false = not-true _ (sym c.in_ok-is_new.ensures.is_new ∙ c.if-not-is_new.false) in
    record {
      answers = (
        (repeat_none (map named_by drivers) (record { at = c.args.at; name = c.args.name.now })).1 (rw (names_same drivers, sym c.requires) new),
        (
          rw (c.in_ok-is_new.ensures.added, c.if-not-is_new.false, c.requires, c.in_ok-push.ensures.ok, map_push (λ (d : DrivenName). d.name.now) drivers _) refl,
          rw c.in_ok-push.ensures.ok (map_push named_by drivers _),
        ),
      );
    }
