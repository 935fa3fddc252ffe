-- What a query leaves of a connection.
use Rattle.std.proofs.Common.{◌≡◌, ◌⊎◌, inl, inr, ℕ, List, [], Option, None, Some, Result, Ok, Err, IfOk, IfErr, IsTrue}
use Rattle.sqlite_value.specs.Order.{Row}
use Rattle.sqlite_schema.specs.declared.command.Returning.{Returning}
use Rattle.sqlite_resolve.specs.declared.compiled.Compiled.{Compiled}
use Rattle.sqlite.specs.State.{State, KeepsCommit, IsUnchanged, IsRolledBack, IsNotRun, FailsToQuery, FailsToShow, Shown, ShowsRows, IsTooLate}
use Rattle.sqlite.{specs.declared.error.Error.{Error}, proofs.InsideLemmas.{unchanged_keeps}}

module _ (old new : State) where
  pub not_run : (sql : List ℕ) (params : Row) (e : Error) → IsNotRun old new sql params e → IsUnchanged old new ⊎ IsRolledBack old new
  unfolding IsNotRun
  not_run sql params e (inl h) = inl h.1
  not_run sql params e (inr f) = inr f.3

  not_shown : (sql : List ℕ) (c : Compiled) (params : Row) (e : Error) (what : Option Returning) → FailsToShow old new sql c params e what
      → IsUnchanged old new ⊎ IsRolledBack old new
  not_shown sql c params e None h = inl h.3
  not_shown sql c params e (Some what) (inl h) = inl h.1
  not_shown sql c params e (Some what) (inr f) = inr f.3

  pub fails_keeps : (sql : List ℕ) (params : Row) (e : Error) → FailsToQuery sql params old new e → KeepsCommit old new
  unfolding FailsToQuery
  fails_keeps sql params e (inl h) = unchanged_keeps old new (not_run sql params e h)
  fails_keeps sql params e (inr h) = unchanged_keeps old new (not_shown sql h.0 _ e h.0.returning h.2)

  pub late_keeps : (sql : List ℕ) (params : Row) (e : Error) → IsTooLate sql params old new e → KeepsCommit old new
  late_keeps sql params e h = unchanged_keeps old new (inl h.5)

  shows_keep : (sql : List ℕ) (c : Compiled) (params : Row) (rows : List Row) (what : Option Returning) → IsTrue old.in_transaction
      → ShowsRows old new sql c params rows what → KeepsCommit old new × IsTrue old.is_open
  shows_keep sql c params rows None inside h = (unchanged_keeps old new (inl h.3), h.3.0.was_open)
  shows_keep sql c params rows (Some what) inside h =
      let w = h.1 in
      (record { was_open = λ _. w.shown.was_open; committed = λ _. rw inside at w.shown.committed_is }, w.shown.was_open)

  pub shown_keeps : (sql : List ℕ) (params : Row) (rows : List Row) → IsTrue old.in_transaction → Shown sql params old new rows
      → KeepsCommit old new × IsTrue old.is_open
  unfolding Shown
  shown_keeps sql params rows inside h = shows_keep sql h.0 _ rows h.0.returning inside h.2

  pub prepare_keeps : {T : Type 0} (sql : List ℕ) (P : T → Type 0) (r : Result T Error) → IfOk r (λ s. P s × IsUnchanged old new)
      → IfErr r (λ e. (params : Row) → IsNotRun old new sql params e)
      → IsTrue new.is_open → new.committed ≡ old.committed
  prepare_keeps sql P (Ok s) ok err is_open = ok.1.0.committed_is
  prepare_keeps sql P (Err e) ok err is_open = (unchanged_keeps old new (not_run sql [] e (err []))).committed is_open

  pub prepare_shuts : {T : Type 0} (sql : List ℕ) (P : T → Type 0) (r : Result T Error) → IfOk r (λ s. P s × IsUnchanged old new)
      → IfErr r (λ e. (params : Row) → IsNotRun old new sql params e)
      → IsTrue new.is_open → IsTrue old.is_open
  prepare_shuts sql P (Ok s) ok err is_open = ok.1.0.was_open
  prepare_shuts sql P (Err e) ok err is_open = (unchanged_keeps old new (not_run sql [] e (err []))).was_open is_open
