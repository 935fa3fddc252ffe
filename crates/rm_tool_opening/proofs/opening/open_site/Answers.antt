use Rattle.std.proofs.Common.{◌≡◌, ◌∙◌, ℕ, List, Option, IfSome, refl, subst}
use Rattle.rm_base.specs.Outside.{Appends}
use Rattle.rm_catalog.specs.declared.record.Record.{Record}
use Rattle.rm_site.specs.{Faults.{IsBadFirst}, declared.open.OpenFault.{OpenFault, TheVariants.{BadRow}}}
use Rattle.rm_tool_ends.specs.Writing.{WritesFront}
use Rattle.rm_tool_opening.{specs.Opening.{IsBadRecord, WritesUnopened, bad_record}, proofs.Source.{told-err}}
use Rattle.rm_tool_opening.specs.declared.opening.Unopened.TheVariants as unopened
use Rattle.rm_tool_opening.proofs.opening.open_site.Goals as goal

-- the record that the opening names is the first that breaks a rule
first-bad : (kept : Option (List Record)) (f : OpenFault) (kind id : ℕ) → f ≡ BadRow kind id → IfSome kept (IsBadFirst f) → IsBadRecord kept (bad_record (record { kind = kind; id = id }))
first-bad kept f kind id is bad = record {
  key = record { kind = kind; id = id };
  first = subst (λ (g : OpenFault). IfSome kept (IsBadFirst g)) is bad;
  is = refl;
}

pub returns-in_err-write_all-in-Err-BadRow-clause-written : goal.returns-in_err-write_all-in-Err-BadRow-clause-written
returns-in_err-write_all-in-Err-BadRow-clause-written g c =
    let before = g.K.Sink.contents c.args.sink.now in
    let now = g.K.Sink.contents c.write_all.new.sink in
    let kept = g.C.Keeper.kept c.args.keeper.now in
    let is = c.in-Err-BadRow in
    let from = c.from_residual-in_err-write_all-in-Err-BadRow in
    told-err from.result unopened.Sink (WritesUnopened kept before now) from.ensures.1
    (record {
      line = bad_record (record { kind = is.kind; id = is.id });
      bad = first-bad kept is.field-0 is.kind is.id is.field-0-is is.ensures.bad;
      written = subst (WritesFront before now) (c.as_bytes.ensures ∙ c.in_ok-line-in-Err-BadRow.ensures) c.in_err-write_all-in-Err-BadRow.ensures.prefix;
    })

pub returns-in_ok-write_all-in-Err-BadRow-clause-written : goal.returns-in_ok-write_all-in-Err-BadRow-clause-written
returns-in_ok-write_all-in-Err-BadRow-clause-written g c =
    let before = g.K.Sink.contents c.args.sink.now in
    let now = g.K.Sink.contents c.write_all.new.sink in
    let kept = g.C.Keeper.kept c.args.keeper.now in
    let is = c.in-Err-BadRow in
    record {
      line = bad_record (record { kind = is.kind; id = is.id });
      bad = first-bad kept is.field-0 is.kind is.id is.field-0-is is.ensures.bad;
      written = subst (Appends before now) (c.as_bytes.ensures ∙ c.in_ok-line-in-Err-BadRow.ensures) c.in_ok-write_all-in-Err-BadRow.ensures.ok;
    }
