-- The part of a thing, as it is found among those of a saved site.
use Rattle.std.proofs.Common.{◌≡◌, ◌+◌, ◌∙◌, ◌==◌, ◌&&◌, not, inl, inr, ℕ, Some, None, Bool, true, refl, ap, sym, subst, arith, find, Contains, slice_get}
use Rattle.std.proofs.lemmas.Bool.{and_from, and_parts, eq-eqb, eqb-true}
use Rattle.rm_base.proofs.Lists.{find_cases, find_none}
use Rattle.rm_blocks.specs.File.{File}
use Rattle.rm_catalog.specs.declared.record.PartEntry.{PartEntry}
use Rattle.rm_machine.specs.{Saved.{file_part, thread_part}, Saving.{SitePart, entry_of, object_of, parts_of, saved_of}, Sound.{IsSound}}
use Rattle.rm_machine.{specs.{State.{ledger, is_lost, is_online}, declared.state.State.{State}}, proofs.PartIds.{ids-from, ids-to}}
use Rattle.rm_redo.specs.{Online.{has_log}, declared.online.ThreadLog.{ThreadLog}}
use Rattle.rm_session.{specs.Adding.{part_of_file, part_of_thread}, proofs.PartsOf.{IsPartOf, file-in, log-in, of_file, of_thread, part-of}}
use Rattle.rm_session.proofs.Resting.{objects_of}

-- what a search finds is the entry of a part that passes
pub record IsEntryFound (s : State) (test : PartEntry → Bool) (e : PartEntry) : Type 0 where
  pub id : ℕ
  pub part : SitePart
  pub held : Contains (parts_of s) part
  pub is : entry_of id part ≡ e
  pub passes : test (entry_of id part) ≡ true
  pub object : Contains (objects_of s) (object_of id part)

pub entry-found : (s : State) (test : PartEntry → Bool) (e : PartEntry) → find test (saved_of s).parts ≡ Some e → IsEntryFound s test e
entry-found s test e is = elim (find_cases test (saved_of s).parts) [
  | inl none ↦ absurd (let clash : None ≡ Some e = sym none ∙ is in cc)
  | inr found ↦
      let both : Some found.item ≡ Some e = sym found.is ∙ is in
      let same : found.item ≡ e = cc in
      let from = ids-from entry_of (ledger s).base.next_id (parts_of s) found.item found.held in
      record {
        id = (ledger s).base.next_id + from.at;
        part = from.part;
        held = from.held;
        is = from.is ∙ same;
        passes = ap test from.is ∙ found.passes;
        object = from.under object_of;
      }
]

-- the part is found
pub record IsPartFound (s : State) (test : PartEntry → Bool) (p : SitePart) : Type 0 where
  pub id : ℕ
  pub is : find test (saved_of s).parts ≡ Some (entry_of id p)
  pub object : Contains (objects_of s) (object_of id p)

pub part-found : (s : State) (test : PartEntry → Bool) (p : SitePart) → Contains (parts_of s) p → ((id : ℕ) → test (entry_of id p) ≡ true) → ((id : ℕ) (q : SitePart) → Contains (parts_of s) q → test (entry_of id q) ≡ true → q ≡ p) → IsPartFound s test p
part-found s test p held passes only = elim (find_cases test (saved_of s).parts) [
  | inl none ↦
      let under = ids-to (ledger s).base.next_id (parts_of s) p held in
      let id = (ledger s).base.next_id + under.at in
      absurd (find_none test (saved_of s).parts (entry_of id under.part) none (under.under entry_of) (ap (λ (q : SitePart). test (entry_of id q)) under.is ∙ passes id))
  | inr found ↦
      let at = entry-found s test found.item found.is in
      let same : at.part ≡ p = only at.id at.part at.held at.passes in
      record { id = at.id; is = found.is ∙ ap Some (sym at.is ∙ ap (entry_of at.id) same); object = subst (λ (q : SitePart). Contains (objects_of s) (object_of at.id q)) same at.object }
]

-- Of datafiles

of-number : (s : State) (k : ℕ) (x : File) → slice_get s.instance.place k ≡ Some (Some x) → (q : SitePart) → IsPartOf s q → q.file ≡ k + 1 → q ≡ part_of_file s (k + 1) x
of-number s k x at _ (of_file j y there) same =
    let place : j ≡ k = omega (arith, same) in
    let both : Some (Some y) ≡ Some (Some x) = sym there ∙ ap (slice_get s.instance.place) place ∙ at in
    let file : y ≡ x = cc in
    ap (λ n. part_of_file s (n + 1) y) place ∙ ap (part_of_file s (k + 1)) file
of-number s k x at _ (of_thread t there found) same = absurd (omega (arith, same))

pub file-found : (s : State) → IsSound s → (k : ℕ) (x : File) → slice_get s.instance.place k ≡ Some (Some x) → IsPartFound s (λ p. p.file == k + 1) (part_of_file s (k + 1) x)
file-found s sound k x at =
    part-found s (λ p. p.file == k + 1) (part_of_file s (k + 1) x) (file-in s k x at) (λ id. eq-eqb (k + 1) (k + 1) refl)
    (λ id q held passes. of-number s k x at q (part-of s sound q held) (eqb-true q.file (k + 1) passes))

stood : (s : State) (k : ℕ) (q : SitePart) → IsPartOf s q → q.file ≡ k + 1 → (x : File) × (slice_get s.instance.place k ≡ Some (Some x))
stood s k _ (of_file j y there) same = let place : k ≡ j = omega (arith, same) in (y, ap (slice_get s.instance.place) place ∙ there)
stood s k _ (of_thread t there found) same = absurd (omega (arith, same))

-- where a part of a datafile is found it stands in place
pub file-stood : (s : State) → IsSound s → (k : ℕ) (e : PartEntry) → file_part (saved_of s) (k + 1) ≡ Some e → (x : File) × (slice_get s.instance.place k ≡ Some (Some x))
file-stood s sound k e is =
    let found = entry-found s (λ p. p.file == k + 1) e is in
    stood s k found.part (part-of s sound found.part found.held) (eqb-true found.part.file (k + 1) found.passes)

-- Of threads

of-thread-number : (s : State) (t : ℕ) (q : SitePart) → IsPartOf s q → q.file ≡ 0 → q.thread ≡ t → (q ≡ part_of_thread s t) × (is_online s.instance.logs t ≡ true)
of-thread-number s t _ (of_file j y there) none same = absurd (omega (arith, none))
of-thread-number s t _ (of_thread u there found) none same =
    (ap (part_of_thread s) same, subst (λ n. is_online s.instance.logs n ≡ true) same (and_from (has_log s.instance.logs u) (not (is_lost s.instance.logs u)) there.2 (ap not found)))

pub thread-found : (s : State) → IsSound s → (k : ℕ) (l : ThreadLog) → slice_get s.instance.logs.threads k ≡ Some l → (l.is_there && not l.is_lost) ≡ true → IsPartFound s (λ p. (p.file == 0) && (p.thread == k + 1)) (part_of_thread s (k + 1))
thread-found s sound k l at found =
    part-found s (λ p. (p.file == 0) && (p.thread == k + 1)) (part_of_thread s (k + 1)) (log-in s k l at found) (λ id. eq-eqb (k + 1) (k + 1) refl) (λ id q held passes.
    let both = and_parts (q.file == 0) (q.thread == k + 1) passes in
    (of-thread-number s (k + 1) q (part-of s sound q held) (eqb-true q.file 0 both.0) (eqb-true q.thread (k + 1) both.1)).0)

-- where a part of a thread is found its log is there, and not lost
pub thread-online : (s : State) → IsSound s → (k : ℕ) (e : PartEntry) → thread_part (saved_of s) (k + 1) ≡ Some e → is_online s.instance.logs (k + 1) ≡ true
thread-online s sound k e is =
    let found = entry-found s (λ p. (p.file == 0) && (p.thread == k + 1)) e is in
    let both = and_parts (found.part.file == 0) (found.part.thread == k + 1) found.passes in
    (of-thread-number s (k + 1) found.part (part-of s sound found.part found.held) (eqb-true found.part.file 0 both.0) (eqb-true found.part.thread (k + 1) both.1)).1
