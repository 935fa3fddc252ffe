-- New objects bear no name of a record.
use Rattle.std.specs.Prelude.{IsSomeAnd}
use Rattle.std.proofs.Common.{◌≡◌, ◌≢◌, ◌<◌, ◌≤◌, ◌+◌, ◌^◌, ◌∙◌, ◌∷◌, ℕ, zero, suc, List, [], Option, Some, None, Bool, true, false, cond, refl, ap, sym, subst, arith, All}
use Rattle.std.proofs.lemmas.List.Elements.{All-append, All-cons, All-nil}
use Rattle.rm_commit.{specs.{Names.{is_named, itself, name_of}, declared.commit.Object.{Object}}, proofs.Standing.{unnamed}}
use Rattle.rm_lang_statement.specs.declared.command.Command.{Command}
use Rattle.rm_lang_statement.specs.declared.command.Command.TheVariants.{ArchiveLogCurrent, OpenResetlogs, SwitchLogfile, SwitchThread}
use Rattle.rm_evidence.specs.Names.{log_name, piece_name, roll_name, set_name, site_name}
use Rattle.rm_evidence.proofs.Names.{log-name-tells, log-no-piece, log-no-roll, log-no-set, log-no-site, piece-name-tells, piece-no-roll, piece-no-set, piece-no-site, set-name-tells, set-no-roll, set-no-site}
use Rattle.rm_redo.specs.LogFormat.{spelling}
use Rattle.rm_report.specs.declared.line.Line.{Line}
use Rattle.rm_machine.specs.{Archive.{after_all, after_thread, archiving, puts_from}, DisableThread.{disabling}}
use Rattle.rm_machine.specs.{Effect.{Effect, done, no_effect}, OpenResetlogs.{branched_off, resetlogs_lines}, Sound.{IsSound}}
use Rattle.rm_machine.specs.{State.{ledger, online}, SwitchLogfile.{archived, is_due, made_lines, none_lines, with_archived}}
use Rattle.rm_machine.{specs.declared.state.State.{State}, proofs.{Archives.{HasRoom, Took, next-room, took-thread}, Branching.{can-reset}}}
use Rattle.rm_machine.proofs.Disabling.{accepted}
use Rattle.rm_machine_laws.specs.Loose.{IsLoose, IsLowIn, IsNamedBy, IsOfId, StaysLoose, is_log, is_piece, is_roll, is_set, of_object, of_part}
use Rattle.rm_machine_laws.proofs.{ArchivingAll.{room}, NewObjects.{log-apart, piece-apart, set-apart}}
use Rattle.rm_machine_laws.proofs.{Switching.{CanSwitch, can-archive, can-switch}, LooseQuiet.{loose-done, quiet-loose}}

-- no record of the database names it, its id is none that was given, and it is no name of a part of a saved site
pub record IsNewName (s : State) (new : List ℕ) : Type 0 where
  pub names : (name : List ℕ) → IsNamedBy s name → name ≢ new
  pub low : (name : List ℕ) → IsLowIn (Some s) name → name ≢ new
  pub parts : (id : ℕ) → site_name id ≢ new

-- an id that is not drawn yet
pub record IsFree (s : State) (id : ℕ) : Type 0 where
  pub next : (ledger s).base.next_id ≤ id
  pub most : id ≤ 4294967295

-- an id that was given is another one
pub above : (s : State) (id lower : ℕ) → IsFree s id → lower < (ledger s).base.next_id → (lower < 2 ^ 64) × (id < 2 ^ 64) × (lower ≢ id)
above s id lower free below = (omega (arith, below, free.next, free.most), omega (arith, free.most), λ same. omega (arith, same, below, free.next))

-- names of new ids are new
pub new-log : (s : State) (id : ℕ) → IsSound s → IsFree s id → IsNewName s (log_name id)
new-log s id sound free = record { names = apart; low = λ name low. other low.0 name low.1 low.2; parts = λ part same. log-no-site id part (sym same) }
  where
    other : (lower : ℕ) (name : List ℕ) → IsOfId lower name → lower < (ledger s).base.next_id → name ≢ log_name id
    other lower _ is_log below same = let far = above s id lower free below in far.2 (log-name-tells lower id far.0 far.1 same)
    other lower _ (is_piece copy) below same = log-no-piece id copy lower (sym same)
    other lower _ is_set below same = log-no-set id lower (sym same)
    other lower _ is_roll below same = log-no-roll id lower (sym same)

    apart : (name : List ℕ) → IsNamedBy s name → name ≢ log_name id
    apart _ (of_object name names) same = log-apart (ledger s) id name sound.catalog.ledger free.next free.most names same
    apart _ (of_part p has) same = log-no-site id p.id (sym same)

pub new-piece : (s : State) (copy : Bool) (id : ℕ) → IsSound s → IsFree s id → IsNewName s (piece_name copy id)
new-piece s copy id sound free = record { names = apart; low = λ name low. other low.0 name low.1 low.2; parts = λ part same. piece-no-site copy id part (sym same) }
  where
    other : (lower : ℕ) (name : List ℕ) → IsOfId lower name → lower < (ledger s).base.next_id → name ≢ piece_name copy id
    other lower _ is_log below same = log-no-piece lower copy id same
    other lower _ (is_piece kind) below same = let far = above s id lower free below in far.2 (piece-name-tells kind copy lower id far.0 far.1 same).1
    other lower _ is_set below same = piece-no-set copy id lower (sym same)
    other lower _ is_roll below same = piece-no-roll copy id lower (sym same)

    apart : (name : List ℕ) → IsNamedBy s name → name ≢ piece_name copy id
    apart _ (of_object name names) same = piece-apart (ledger s) copy id name sound.catalog.ledger free.next free.most names same
    apart _ (of_part p has) same = piece-no-site copy id p.id (sym same)

pub new-set : (s : State) (id : ℕ) → IsSound s → IsFree s id → IsNewName s (set_name id)
new-set s id sound free = record { names = apart; low = λ name low. other low.0 name low.1 low.2; parts = λ part same. set-no-site id part (sym same) }
  where
    other : (lower : ℕ) (name : List ℕ) → IsOfId lower name → lower < (ledger s).base.next_id → name ≢ set_name id
    other lower _ is_log below same = log-no-set lower id same
    other lower _ (is_piece copy) below same = piece-no-set copy lower id same
    other lower _ is_set below same = let far = above s id lower free below in far.2 (set-name-tells lower id far.0 far.1 same)
    other lower _ is_roll below same = set-no-roll id lower (sym same)

    apart : (name : List ℕ) → IsNamedBy s name → name ≢ set_name id
    apart _ (of_object name names) same = set-apart (ledger s) id name sound.catalog.ledger free.next free.most names same
    apart _ (of_part p has) same = set-no-site id p.id (sym same)

abbrev pub AreNew : State → List Object → Type 0
AreNew s xs = All (λ x. IsNewName s x.name) xs

none-named : (n : List ℕ) (xs : List Object) → All (λ x. n ≢ x.name) xs → is_named name_of xs n ≡ true → ⊥
none-named n xs apart named = let clash : false ≡ true = sym (unnamed name_of xs n apart) ∙ named in cc

-- a statement that puts new names alone, and takes away none of a record that is left, nor of an increment
pub loose-by : (s : State) (c : Command) (e : Effect) (t : State) → AreNew s e.puts → ((name : List ℕ) → IsNamedBy t name → ¬ (is_named itself e.removes name ≡ true))
    → ((id : ℕ) → ¬ (is_named itself e.removes (roll_name id) ≡ true)) → IsLoose (Some s) c e t
loose-by s c e t new free stays = record {
  puts = λ name names named. absurd (none-named name e.puts (λ k d inside. (new k d inside).names name names) named);
  low = λ name low named. absurd (none-named name e.puts (λ k d inside. (new k d inside).low name low) named);
  parts = λ id named. absurd (none-named (site_name id) e.puts (λ k d inside. (new k d inside).parts id) named);
  removes = λ name names named. absurd (free name names named);
  rolls = λ id named. absurd (stays id named);
}

-- one that takes nothing away
pub new-loose : (s : State) (c : Command) (e : Effect) (t : State) → e.removes ≡ [] → AreNew s e.puts → IsLoose (Some s) c e t
new-loose s c e t removes new = loose-by s c e t new (λ name names named. none name named) (λ id named. none (roll_name id) named)
  where
    none : (name : List ℕ) → ¬ (is_named itself e.removes name ≡ true)
    none name named = let clash : false ≡ true = sym (ap (λ ys. is_named itself ys name) removes) ∙ named in cc

one-new : (s : State) (id : ℕ) (bytes : List ℕ) → IsSound s → IsFree s id → AreNew s (record { name = log_name id; bytes = bytes } ∷ [])
one-new s id bytes sound free =
    All-cons (λ (x : Object). IsNewName s x.name) (record { name = log_name id; bytes = bytes }) [] (new-log s id sound free) (All-nil (λ (x : Object). IsNewName s x.name))

-- SWITCH LOGFILE

switch-by : (b : Bool) (s : State) (t : ℕ) (lines : List Line) (e : Effect) (q : State) → is_due s t ≡ b → IsSound s → CanSwitch s t
    → done lines e q ≡ cond b (done (made_lines s t) (archived (ledger s).base.next_id (online s t)) (with_archived s t)) (done (none_lines t) no_effect s) → IsLoose (Some s) (SwitchLogfile t) e q
switch-by false s t lines e q due sound can is = quiet-loose s (SwitchLogfile t) lines _ e s q is
switch-by true s t lines e q due sound can is =
    let id = (ledger s).base.next_id in
    let most = (can-archive s t can due).ids in
    let same : archived id (online s t) ≡ e = cc in
    subst (λ x. IsLoose (Some s) (SwitchLogfile t) x q) same
    (new-loose s (SwitchLogfile t) (archived id (online s t)) q refl (one-new s id (spelling (online s t)) sound (record { next = omega arith; most = omega (arith, most) })))

pub switch-loose : (t : ℕ) → StaysLoose (SwitchLogfile t)
switch-loose t = loose-done (SwitchLogfile t) (λ s held lines e q sound none is. switch-by (is_due s t) s t lines e q refl sound (can-switch s t none) is)

-- DISABLE THREAD and ARCHIVE LOG CURRENT

thread-new : (b : Bool) (s : State) (id : ℕ) (bytes : List ℕ) → IsSound s → (b ≡ true → IsFree s id) → AreNew s (cond b (record { name = log_name id; bytes = bytes } ∷ []) [])
thread-new true s id bytes sound free = one-new s id bytes sound (free refl)
thread-new false s id bytes sound free = All-nil (λ (x : Object). IsNewName s x.name)

threads-new : (n t : ℕ) (s : State) (more : ℕ) (first : State) → IsSound first → (ledger first).base.next_id ≤ (ledger s).base.next_id → HasRoom s t n more → AreNew first (puts_from s t n)
threads-new zero t s more first sound low fits = All-nil (λ (x : Object). IsNewName first x.name)
threads-new (suc n) t s more first sound low fits =
    let id = (ledger s).base.next_id in
    let q : State = after_thread s t in
    let took : Took s q (cond (is_due s t) 1 0) = took-thread s t (is_due s t) in
    All-append (λ (x : Object). IsNewName first x.name) (cond (is_due s t) (archived id (online s t)).puts []) (puts_from q (t + 1) n)
    (thread-new (is_due s t) first id (spelling (online s t)) sound (λ due. record { next = low; most = omega (arith, fits.ids) }))
    (threads-new n (t + 1) q more first sound (omega (arith, low, took.ids)) (next-room s t n more fits))

pub disable-loose : (t : ℕ) → StaysLoose (SwitchThread t false)
disable-loose t = loose-done (SwitchThread t false) (λ s held lines e q sound none does.
    let is : disabling s t ≡ e = cc in
    subst (λ x. IsLoose (Some s) (SwitchThread t false) x q) is
    (new-loose s (SwitchThread t false) (disabling s t) q refl (thread-new (is_due s t) s (ledger s).base.next_id (spelling (online s t)) sound (λ due. record { next = omega arith; most = omega (arith, (accepted s t sound none).ids) }))))

pub archive-loose : StaysLoose ArchiveLogCurrent
archive-loose = loose-done ArchiveLogCurrent (λ s held lines e t sound none does.
    let is : archiving s ≡ e = cc in
    subst (λ x. IsLoose (Some s) ArchiveLogCurrent x t) is
    (new-loose s ArchiveLogCurrent (archiving s) t refl (threads-new 4 1 s 0 s sound (omega arith) (room s sound none))))

-- OPEN RESETLOGS

branch-by : (o : Option ℕ) (s : State) (lines : List Line) (e : Effect) (t : State) → IsSomeAnd o (λ at. done lines e t ≡ done (resetlogs_lines s at) (archiving s) (branched_off (after_all s) at)) → archiving s ≡ e
branch-by None s lines e t is = absurd is
branch-by (Some at) s lines e t is = cc

pub branch-loose : StaysLoose OpenResetlogs
branch-loose = loose-done OpenResetlogs (λ s held lines e t sound none does.
    subst (λ x. IsLoose (Some s) OpenResetlogs x t) (branch-by s.instance.point s lines e t does)
    (new-loose s OpenResetlogs (archiving s) t refl (threads-new 4 1 s 2 s sound (omega arith) (can-reset s sound none).room)))
