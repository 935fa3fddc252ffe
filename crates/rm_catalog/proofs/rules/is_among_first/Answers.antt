use Rattle.std.{specs.Prelude.{IsTrue, count_by}, proofs.Common.{ℕ, ◌<◌, ◌∙◌, subst, sym}}
use Rattle.rm_catalog.specs.Rules.{is_lasting, lasts_below}
use Rattle.rm_catalog.proofs.rules.is_among_first.Goals as goal

pub returns-then-is_lasting : goal.returns-then-is_lasting
returns-then-is_lasting c =
    let lasting : IsTrue (is_lasting c.args.r.now) = sym c.is_lasting.ensures ∙ c.if-is_lasting.true in (
      λ few. record { few = λ _. subst (λ (p : ℕ). count_by (lasts_below p) c.args.records.now < 65536) c.place.ensures.is (c.are_few.ensures.0 few) },
      λ first. c.are_few.ensures.1 (subst (λ (p : ℕ). count_by (lasts_below p) c.args.records.now < 65536) (sym c.place.ensures.is) (first.few lasting)),
    )
