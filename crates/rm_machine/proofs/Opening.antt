-- The running database of a sound, open state is a sound live one.
use Rattle.std.specs.{List.{Contains}, Option.{option_map_or}}
use Rattle.std.proofs.Common.{◌≡◌, ◌≢◌, ◌<◌, ◌≤◌, ◌+◌, ◌-◌, ◌∙◌, inl, inr, ℕ, suc, List, [], ◌∷◌, Option, Some, None, true, false, refl, ap, sym, subst, arith, slice_get, All}
use Rattle.std.proofs.lemmas.{Bool.{cases_Bool}, List.{Elements.{All-cons, All-contains_itself, All-nil, All-weaker}, Kept.{AllPairs-cons}}}
use Rattle.std.proofs.lemmas.Option.{slice_get_within}
use Rattle.rm_base.proofs.{Slots.{all-get}, Standing.{each-get}}
use Rattle.rm_blocks.specs.File.{File, standing}
use Rattle.rm_history.{specs.Tree.{end_of}, proofs.Highs.{high-above}}
use Rattle.rm_catalog_typed.proofs.Lookups.{item-at}
use Rattle.rm_live.specs.Parts.{IsNumbered, IsSound as IsSoundLive}
use Rattle.rm_redo.specs.{LogFormat.{IsLogRecord}, Online.{first_of, has_log, no_log, thread_records}}
use Rattle.rm_redo.specs.declared.online.{LogRecord.{LogRecord}, ThreadLog.{ThreadLog}}
use Rattle.rm_machine.specs.{Sound.{IsGone, IsOnline, IsPlaced, IsSound}, State.{current_of, ledger, now_of, online, redo_end, tree}}
use Rattle.rm_machine.{specs.{Events.{opening}, declared.state.State.{State}}, proofs.{Places.{counted-open}, Threads.{thread-in}}}
use Rattle.rm_machine.proofs.{Following.{AreFrom, goes-along, present}, Numbered.{from-next, numbers-from}}

-- what is true of each that stands in place is true of all that do
pub present-all : (P : File → Type 0) (place : List (Option File)) → ((k : ℕ) (x : File) → slice_get place k ≡ Some (Some x) → P x) → All P (present place)
present-all P [] each = All-nil P
present-all P (None ∷ place) each = present-all P place (λ k x is. each (suc k) x is)
present-all P (Some x ∷ place) each = All-cons P x (present place) (each 0 x refl) (present-all P place (λ k y is. each (suc k) y is))

-- no two have one number
numbered-from : (n : ℕ) (place : List (Option File)) → AreFrom n place → IsNumbered (present place)
numbered-from n [] are = λ i j d lt inside. absurd (omega (arith, inside))
numbered-from n (None ∷ place) are = numbered-from (n + 1) place (from-next n None place are)
numbered-from n (Some x ∷ place) are =
    AllPairs-cons (λ (x y : File). x.file ≢ y.file) x (present place)
    (present-all (λ (y : File). x.file ≢ y.file) place (λ k y is e. omega (arith, e, are 0 x refl, are (suc k) y is)))
    (numbered-from (n + 1) place (from-next n (Some x) place are))

pub opening-numbered : (s : State) → IsSound s → s.instance.is_open ≡ true → IsNumbered (opening s).files
opening-numbered s sound opened = numbered-from 0 s.instance.place (numbers-from s (goes-along s sound opened))

module _ (s : State) (sound : IsSound s) (opened : s.instance.is_open ≡ true) where
  abbrev now : ℕ
  now = now_of s

  rows-below : (k : ℕ) (x : File) → slice_get s.instance.place k ≡ Some (Some x) → All (λ r. r.version < now) x.rows
  rows-below k x is =
      let file = item-at (ledger s).files k (omega (arith, slice_get_within s.instance.place k (Some x) is, sound.place.many)) in
      let placed : IsPlaced (tree s) k file.0 (standing x (current_of s) now) = subst (IsPlaced (tree s) k file.0) (counted-open s x opened) (sound.place.each k file.0 x file.1 is) in
      All-weaker (Contains x.rows) (λ r. r.version < now) (λ r has. omega (arith, high-above now x.rows r has, placed.high)) x.rows (All-contains_itself x.rows)

  redo-now : redo_end s ≡ now
  redo-now = ap (end_of (tree s)) (sound.in_open opened).inc

  log-at : (k : ℕ) (l : ThreadLog) → slice_get s.instance.logs.threads k ≡ Some l → slice_get s.instance.logs.threads (k + 1 - 1) ≡ Some l
  log-at k l is = let same : k + 1 - 1 ≡ k = omega arith in ap (slice_get s.instance.logs.threads) same ∙ is

  log-online : (k : ℕ) → has_log s.instance.logs (k + 1) ≡ true → IsOnline (tree s) (online s (k + 1))
  log-online k has =
      let there = thread-in s.instance.logs (k + 1) (omega arith) has in
      sound.logs.each (k + 1) there ((sound.in_open opened).found (k + 1) there)

  log-there : (k : ℕ) (l : ThreadLog) → slice_get s.instance.logs.threads k ≡ Some l → has_log s.instance.logs (k + 1) ≡ l.is_there
  log-there k l is = ap (λ o. option_map_or (λ (m : ThreadLog). m.is_there) o false) (log-at k l is)

  -- nothing stands where no thread is
  nowhere : (k : ℕ) (l : ThreadLog) → slice_get s.instance.logs.threads k ≡ Some l → l.is_there ≡ false → l ≡ no_log
  nowhere k l is = all-get IsGone s.instance.logs.threads k l is sound.logs.gone

  begun : 0 < now
  begun = let range = sound.catalog.ledger.incarnations.ranges (current_of s) sound.catalog.ledger.current in omega (arith, range.0, range.1)

  log-begun : (k : ℕ) (l : ThreadLog) → slice_get s.instance.logs.threads k ≡ Some l → l.first ≤ now
  log-begun k l is =
      let first : first_of s.instance.logs (k + 1) ≡ l.first = ap (λ o. option_map_or (λ (m : ThreadLog). m.first) o 0) (log-at k l is) in
      elim (cases_Bool l.is_there) [
        | inl there ↦ omega (arith, first, (log-online k (log-there k l is ∙ there)).valid.range.1, redo-now)
        | inr gone ↦ let none = nowhere k l is gone in omega (arith, ap (λ (m : ThreadLog). m.first) none, begun)
      ]

  log-below : (k : ℕ) (l : ThreadLog) → slice_get s.instance.logs.threads k ≡ Some l → All (λ r. r.scn < now) l.records
  log-below k l is =
      let records : thread_records s.instance.logs (k + 1) ≡ l.records = ap (λ o. option_map_or (λ (m : ThreadLog). m.records) o []) (log-at k l is) in
      elim (cases_Bool l.is_there) [
        | inl there ↦ subst (All (λ r. r.scn < now)) records
            (All-weaker (IsLogRecord (first_of s.instance.logs (k + 1)) (redo_end s)) (λ r. r.scn < now) (λ r is. omega (arith, is.scn.1, redo-now))
            (thread_records s.instance.logs (k + 1)) (log-online k (log-there k l is ∙ there)).valid.records)
        | inr gone ↦ subst (λ (m : ThreadLog). All (λ r. r.scn < now) m.records) (sym (nowhere k l is gone)) (All-nil (λ (r : LogRecord). r.scn < now))
      ]

  pub opening-sound : IsSoundLive (opening s)
  opening-sound =
      let range = sound.catalog.ledger.incarnations.ranges (current_of s) sound.catalog.ledger.current in
      record {
        inc = (sound.in_open opened).inc;
        begun = begun;
        last = range.2;
        first = each-get (λ (l : ThreadLog). l.first ≤ now) s.instance.logs.threads log-begun;
        rows = present-all (λ (x : File). All (λ r. r.version < now) x.rows) s.instance.place rows-below;
        records = each-get (λ (l : ThreadLog). All (λ r. r.scn < now) l.records) s.instance.logs.threads log-below;
      }
