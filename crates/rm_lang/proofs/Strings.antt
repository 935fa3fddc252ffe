-- Strings that are kept as they stand, and points.
use Rattle.std.{specs.Option.{option_map}, proofs.Common.{◌≡◌, refl, subst, cond, ℕ, List, Option, Some, None, Bool, true, false, ◌&&◌}}
use Rattle.std.proofs.lemmas.Bool.{and_parts}
use Rattle.rm_lang_token.specs.Spelling.{are_string_bytes}
use Rattle.rm_lang_grammar.specs.Grammar.{kept_of, Choice, first, second, Values}
use Rattle.rm_lang_grammar.{specs.Spelling.{IsFaithful, is_shown, valid, one_valid, maybe_valid}, proofs.Found.{some_same}}
use Rattle.rm_lang_grammar.proofs.Spelled.{same_keeps, keeps_same}
use Rattle.rm_moments.specs.Times.{is_time_text}
use Rattle.rm_lang_statement.specs.{Texts.{tested, anything, is_text, time}, IsCommand.{is_until, is_until_or_none}}
use Rattle.rm_lang_statement.specs.declared.command.Until.{Until, TheVariants.{Scn, Sequence, Time}}
use Rattle.rm_lang_reading.specs.Recovering.{scn_part, sequence_part, time_part, log_or_time, until_line, until_by, until_of, incarnation_line}
use Rattle.rm_lang_reading.specs.Values.{until_choice, until_values, incarnation_values}

kept_parts : (a b : Bool) (w v : List ℕ) → cond a (cond b (Some w) None) None ≡ Some v → (a && b ≡ true) × (w ≡ v)
kept_parts true true w v e = (refl, some_same e)
kept_parts true false w v e = absurd (cc)
kept_parts false b w v e = absurd (cc)

-- what is shown of a string is the string
pub tested-faithful : (test : List ℕ → Bool) → IsFaithful (tested test)
tested-faithful test w v e =
    let k = kept_parts (are_string_bytes w) (test w) w v e in
    subst (λ u. kept_of (tested test).read u ≡ Some v) k.1 e

pub shown-tested : (test : List ℕ → Bool) (w : List ℕ) → is_text test w ≡ true → is_shown (tested test) w ≡ true
shown-tested test w h =
    let b = and_parts (are_string_bytes w) (test w) h in
    same_keeps (kept_of (tested test).read w) w (rw b.0 (rw b.1 refl))

pub tested-shown : (test : List ℕ → Bool) (w : List ℕ) → is_shown (tested test) w ≡ true → is_text test w ≡ true
tested-shown test w h = (kept_parts (are_string_bytes w) (test w) w w (keeps_same (kept_of (tested test).read w) w h)).0

-- points
pub choice_valid : (u : Until) → is_until u ≡ true → one_valid (valid scn_part) (valid log_or_time) (until_choice u) ≡ true
choice_valid (Scn n) h = refl
choice_valid (Sequence sequence thread) h = refl
choice_valid (Time w) h = rw (shown-tested is_time_text w h) refl

pub until_valid : (o : Option Until) → is_until_or_none o ≡ true → maybe_valid (valid until_line) (option_map until_values o) ≡ true
until_valid None h = refl
until_valid (Some u) h = rw (choice_valid u h) refl

behind_passes : (v : Choice (Values sequence_part) (Values time_part)) → one_valid (valid sequence_part) (valid time_part) v ≡ true → is_until (until_by (second (v, tt))) ≡ true
behind_passes (first v) h = refl
behind_passes (second v) h = tested-shown is_time_text v.0 (and_parts (is_shown time v.0) true h).0

pub choice_passes : (v : Choice (Values scn_part) (Values log_or_time)) → one_valid (valid scn_part) (valid log_or_time) v ≡ true → is_until (until_by v) ≡ true
choice_passes (first v) h = refl
choice_passes (second v) h = behind_passes v.0 (and_parts (one_valid (valid sequence_part) (valid time_part) v.0) true h).0

pub until_passes : (o : Option (Values until_line)) → maybe_valid (valid until_line) o ≡ true → is_until_or_none (option_map until_of o) ≡ true
until_passes None h = refl
until_passes (Some v) h = choice_passes v.0 (and_parts (one_valid (valid scn_part) (valid log_or_time) v.0) true h).0

pub incarnation_valid : (o : Option ℕ) → maybe_valid (valid incarnation_line) (option_map incarnation_values o) ≡ true
incarnation_valid None = refl
incarnation_valid (Some n) = refl

and_true : (b : Bool) → (b && true) ≡ b
and_true true = refl
and_true false = refl

-- any string that can stand between quotes
pub plain_is : (w : List ℕ) → is_text anything w ≡ are_string_bytes w
plain_is w = and_true (are_string_bytes w)
