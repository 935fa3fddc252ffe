-- The incarnation of the first log, and the logs that are of one incarnation.
use Rattle.std.proofs.Common.{◌==◌, ℕ, List, [], ◌∷◌, Option, Some, None, IfSome, All, Bool, true, false, cond, map}
use Rattle.std.proofs.lemmas.List.Elements.{All-head, All-map, All-tail, All-weaker}
use Rattle.rm_machine.specs.Loading.{inc_of_first, where_of}
use Rattle.rm_redo.specs.{LogFormat.{IsLogFile}, declared.log_file.LogFile.{LogFile}}

-- this is so of the log, if there is one
abbrev pub OfLog : (LogFile → Type 0) → Option LogFile → Type 0
OfLog P o = IfSome o P

-- what is so of each incarnation of them is so of the first one's
pub first-is : (P : ℕ → Type 0) (i : ℕ) (logs : List (Option LogFile)) → P i → All (OfLog (λ a. P a.inc)) logs → P (inc_of_first i logs)
first-is P i [] here all = here
first-is P i (None ∷ logs) here all = first-is P i logs here (All-tail (OfLog (λ a. P a.inc)) None logs all)
first-is P i (Some a ∷ logs) here all = All-head (OfLog (λ a. P a.inc)) (Some a) logs all

kept-where : (P : LogFile → Type 0) (b : Bool) (a : LogFile) → P a → IfSome (cond b (Some a) None) P
kept-where P true a is = is
kept-where P false a is = tt

-- what is so of a log is so of it where it is kept
where-is : (P : LogFile → Type 0) (i : ℕ) (o : Option LogFile) → IfSome o P → IfSome (where_of i o) P
where-is P i None is = tt
where-is P i (Some a) is = kept-where P (a.inc == i) a is

pub kept-valid : (i : ℕ) (logs : List (Option LogFile)) → All (OfLog IsLogFile) logs → All (OfLog IsLogFile) (map (where_of i) logs)
kept-valid i logs all = All-map (OfLog IsLogFile) (where_of i) logs (All-weaker (OfLog IsLogFile) (λ o. OfLog IsLogFile (where_of i o)) (λ o is. where-is IsLogFile i o is) logs all)

pub of-each : (P Q : LogFile → Type 0) → ((a : LogFile) → P a → Q a) → (o : Option LogFile) → IfSome o P → IfSome o Q
of-each P Q then None is = tt
of-each P Q then (Some a) is = then a is
