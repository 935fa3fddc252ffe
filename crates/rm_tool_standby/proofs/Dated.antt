-- No line and no refusal of a standby has a date that is too late.
use Rattle.std.proofs.Common.{◌≡◌, ◌++◌, ℕ, Bool, true, false, List, [], ◌∷◌, Option, Some, None, All, IfSome, if◌then◌else◌, nat_lt, subst, sym}
use Rattle.std.proofs.lemmas.List.Elements.{All-append, All-cons, All-nil}
use Rattle.rm_base.specs.{Store.{Held}, declared.{kinds.Bad.{Bad}, refusal.{Limit.TheVariants.{ObjectIds}, Refusal.{Refusal}}}}
use Rattle.rm_base.specs.declared.refusal.Refusal.TheVariants.{Rm11}
use Rattle.rm_machine.specs.{RecoverTest.{file_lines}, Recovery.{skipped_lines}, declared.state.State.{State}}
use Rattle.rm_machine.proofs.Skipped.{skipped-dated}
use Rattle.rm_piece.specs.declared.set.{Set.{Set}, SetFile.{SetFile}}
use Rattle.rm_report.{specs.{Reply.{HasDate, IsPlain, LineHasDate}, declared.line.Line.{Line}}, proofs.Plain.{plain-dated}}
use Rattle.rm_step_recover.{specs.Gap.{NamesGap}, proofs.Dates.{rows-dated}}
use Rattle.rm_tool_standby.specs.Done.{dump_lines, file_in, members_lines}
use Rattle.rm_tool_standby.specs.Refused.{RefusesRoll, apart, no_increment, no_number, none_to_roll, number_refusal}

-- The lines

-- one behind those of skipped records
pub made-dated : (xs : List (ℕ × Bad)) (line : Line) (lines : List Line) → IsPlain line → lines ≡ skipped_lines xs ++ line ∷ [] → All LineHasDate lines
made-dated xs line lines plain is = subst (All LineHasDate) (sym is)
    (plain-dated (skipped_lines xs ++ line ∷ []) (All-append IsPlain (skipped_lines xs) (line ∷ []) (skipped-dated xs) (All-cons IsPlain line [] plain (All-nil IsPlain))))

pub one-dated : (line : Line) (lines : List Line) → IsPlain line → lines ≡ line ∷ [] → All LineHasDate lines
one-dated line lines plain is = made-dated [] line lines plain is

members-dated : (ms : List SetFile) → All IsPlain (members_lines ms)
members-dated [] = All-nil IsPlain
members-dated (m ∷ ms) =
    All-append IsPlain (file_lines m.creation (file_in m)) (members_lines ms) (rows-dated m.creation m.piece.file m.piece.rows) (members-dated ms)

pub dump-dated : (a : Set) (lines : List Line) → lines ≡ dump_lines a → All LineHasDate lines
dump-dated a lines is = subst (All LineHasDate) (sym is) (plain-dated (dump_lines a) (All-cons IsPlain _ _ tt (members-dated a.members)))

-- The refusals

by-number : (b : Bool) → IfSome (if b then None else Some (Rm11 ObjectIds)) HasDate
by-number true = tt
by-number false = tt

pub number-dated : (found : Option (ℕ × Set)) (r : Refusal) → number_refusal found ≡ Some r → HasDate r
number-dated found r is = subst (λ (o : Option Refusal). IfSome o HasDate) is (of-found found)
  where
    of-found : (found : Option (ℕ × Set)) → IfSome (number_refusal found) HasDate
    of-found None = tt
    of-found (Some x) = by-number (nat_lt x.0 4294967295)

pub gap-dated : (from : Option Held) (s : State) (i at : ℕ) (r : Refusal) → NamesGap from s i at r → HasDate r
gap-dated from s i at r gap = subst HasDate (sym gap.names) tt

pub roll-dated : (s : State) (n : ℕ) (found : Option (ℕ × Set)) (increment : Option Set) (r : Refusal) → RefusesRoll s n found increment r → HasDate r
roll-dated s n _ _ _ (no_number found increment r is) = number-dated found r is
roll-dated s n _ _ _ (no_increment found left) = tt
roll-dated s n _ _ _ (none_to_roll increment) = tt
roll-dated s n _ _ _ (apart number standby increment left not) = tt
