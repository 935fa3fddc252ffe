-- Replies whose lines are no refusals, and those that are one.
use Rattle.std.{specs.Prelude.{MatchBool, Bool, true, false}, proofs.Common.{◌≡◌, ◌++◌, List, [], All, get_or, sym, subst}}
use Rattle.std.proofs.lemmas.List.Elements.{Contains-append_right, Contains-push}
use Rattle.rm_base.specs.declared.refusal.Refusal.{Refusal}
use Rattle.rm_report.specs.{Reply.{IsFlagged, IsPlain, LineHasDate, refused_by, said}, declared.line.Line.{Line, TheVariants.{Refused}}}
use Rattle.rm_report.specs.declared.line.Reply.{Reply}

line-dated : (line : Line) → IsPlain line → LineHasDate line
line-dated (Refused refusal) plain = absurd plain
line-dated _ plain = tt

-- lines that are no refusals have their dates
pub plain-dated : (lines : List Line) → All IsPlain lines → All LineHasDate lines
plain-dated lines plain = λ k d within. line-dated (get_or lines k d) (plain k d within)

-- a reply that says such lines is flagged rightly, and so is a refusal
pub said-flagged : (reply : Reply) (lines : List Line) → reply ≡ said lines → All IsPlain lines → IsFlagged reply
said-flagged reply lines is plain = subst IsFlagged (sym is) plain

pub refused-flagged : (reply : Reply) (refusal : Refusal) → reply ≡ refused_by refusal → IsFlagged reply
refused-flagged reply refusal is = subst IsFlagged (sym is) (refusal, Contains-push [] (Refused refusal))

by-flag : (b : Bool) (P Q : Type 0) → b ≡ true → MatchBool b P Q → P
by-flag true P Q is p = p
by-flag false P Q is q = absurd (cc)

by-none : (b : Bool) (P Q : Type 0) → b ≡ false → MatchBool b P Q → Q
by-none true P Q is p = absurd (cc)
by-none false P Q is q = q

-- no line of a reply that is not refused is a refusal
pub plain-lines : (reply : Reply) → IsFlagged reply → reply.refused ≡ false → All IsPlain reply.lines
plain-lines reply flagged none = by-none reply.refused _ _ none flagged

-- and behind other lines one of a refusal is still there
pub refused-behind : (before : List Line) (reply whole : Reply) → IsFlagged reply → reply.refused ≡ true → whole ≡ record { lines = before ++ reply.lines; refused = true } → IsFlagged whole
refused-behind before reply whole flagged is are =
    let one = by-flag reply.refused _ _ is flagged in
    subst IsFlagged (sym are) (one.0, Contains-append_right before reply.lines (Refused one.0) one.1)
