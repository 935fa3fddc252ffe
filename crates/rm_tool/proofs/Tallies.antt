-- What the tally of replies tells.
use Rattle.std.specs.{Prelude.{if◌then◌else◌}, List.{list_any}}
use Rattle.std.proofs.Common.{◌≡◌, ◌≤◌, ◌∙◌, ◌∷◌, [], ℕ, Bool, true, false, List, Option, refl, ap, sym, arith, length, lt-ltb, ltb-true, nat_lt}
use Rattle.std.proofs.lemmas.Bool.{le-ltb}
use Rattle.rm_machine.specs.declared.state.State.{State}
use Rattle.rm_report.specs.declared.line.Reply.{Reply}
use Rattle.rm_tool_opening.specs.Shown.{next_scn, objects_in}
use Rattle.rm_tool.specs.{Drill.{IsTally, capped, drill_line, refusals_told, summary_text}, declared.drill.Summary.{Summary}}
use Rattle.rm_tool.specs.declared.tally.Tally.{Tally}

some-capped : (n : ℕ) → nat_lt 0 (capped n) ≡ nat_lt 0 n
some-capped n = go (nat_lt 18446744073709551615 n) refl
  where
    go : (b : Bool) → nat_lt 18446744073709551615 n ≡ b → nat_lt 0 (if b then 18446744073709551615 else n) ≡ nat_lt 0 n
    go true e = sym (lt-ltb 0 n (omega (arith, ltb-true _ _ e)))
    go false e = refl

some-refused : (rs : List Reply) → nat_lt 0 (refusals_told rs) ≡ list_any (λ r. r.refused) rs
some-refused [] = refl
some-refused (r ∷ rs) = go r.refused refl (some-refused rs)
  where
    go : (b : Bool) → r.refused ≡ b → nat_lt 0 (refusals_told rs) ≡ list_any (λ q. q.refused) rs → nat_lt 0 (refusals_told (r ∷ rs)) ≡ list_any (λ q. q.refused) (r ∷ rs)
    go true e more = rw e (lt-ltb 0 _ (omega arith))
    go false e more = rw e more

-- it tells whether one is a refusal
pub refused-told : (t : Tally) (rs : List Reply) → IsTally t rs → nat_lt 0 t.refused ≡ list_any (λ r. r.refused) rs
refused-told t rs is = ap (nat_lt 0) is.refused ∙ some-capped (refusals_told rs) ∙ some-refused rs

few-refused : (rs : List Reply) → refusals_told rs ≤ length rs
few-refused [] = omega arith
few-refused (r ∷ rs) = go r.refused refl (few-refused rs)
  where
    go : (b : Bool) → r.refused ≡ b → refusals_told rs ≤ length rs → refusals_told (r ∷ rs) ≤ length (r ∷ rs)
    go true e more = rw e (omega (arith, more))
    go false e more = rw e (omega (arith, more))

-- the summary of these replies, and of the database at the end, is the line of the drill
pub line-is : (s : Summary) (rs : List Reply) (o : Option State) → IsTally s.tally rs → s.statements ≡ length rs → length rs ≤ 18446744073709551615 → s.next_scn ≡ next_scn o → s.objects ≡ objects_in o
    → summary_text s ≡ drill_line s.number rs o
unfolding drill_line
line-is s rs o tally many most scn objects =
    let exact : capped (refusals_told rs) ≡ refusals_told rs = rw (le-ltb 18446744073709551615 (refusals_told rs) (omega (arith, few-refused rs, most))) refl in
    let refused : s.tally.refused ≡ refusals_told rs = tally.refused ∙ exact in
    λ i. summary_text (record { number = s.number; statements = many i; tally = record { refused = refused i; writes = tally.writes i }; next_scn = scn i; objects = objects i })
