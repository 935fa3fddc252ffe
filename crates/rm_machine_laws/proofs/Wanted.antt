-- The blocks that a BACKUP wants, by its bitmaps: those that changed. The others had a version below the parent's checkpoint.
use Rattle.std.specs.Option.{option_and_then, option_map, option_map_or}
use Rattle.std.proofs.Common.{◌≡◌, ◌↔◌, ◌+◌, ◌<◌, ◌∙◌, inl, inr, ℕ, Bool, List, [], ◌∷◌, Option, Some, None, IsSome, is_some, true, cond, Contains, length, refl, ap, sym, subst, arith}
use Rattle.std.proofs.lemmas.Bool.{le-ltb, lt-ltb}
use Rattle.rm_base.{specs.declared.block.Change.{Change}, proofs.{Lists.{map_to}, Members.{first-or-rest, none-in}}}
use Rattle.rm_history.specs.{Agrees.{IsBelow}, State.{state}, World.{blocks_of}}
use Rattle.rm_track.specs.Bits.{IsMarked, blocks_from}
use Rattle.rm_track.specs.Bitmaps.{Tracked, candidates_at, candidates_of, joined, oldest, switch_at, switched, tracked_at, unmarked}
use Rattle.rm_track.{specs.Told.{HasChange, IsChanged, IsStartFor, Tell, starts}, proofs.{Places.{found-same}, Telling.{candidates-found}}}
use Rattle.rm_track.proofs.ReadBlocks.{blocks-marked, marked-block}
use Rattle.rm_live.specs.Ruled.{upto}
use Rattle.rm_catalog_typed.proofs.Trees.{parents_below}
use Rattle.rm_lang_statement.specs.declared.command.BackupForm.{BackupForm}
use Rattle.rm_machine.specs.{Asked.{blocks_read, candidates_in}, Backup.{AreJobs, rows_in, taken}, BackupOutcome.{begun}}
use Rattle.rm_machine.specs.{Machine.{HistoryFits}, Sound.{IsSound}, Tracked.{AreTracked, IsTracked, switch_all, tracks, with_tracker}}
use Rattle.rm_machine.specs.{State.{current_of, ledger, now_of, on_path, tree, world}, declared.{job.Job.{Job}, state.State.{State}}}
use Rattle.rm_machine.proofs.{BackingUp.{IsNoCandidate}, Tracked.{at-file, some-is, tracked-switch_all}, FirstTold.{lie-below}}
use Rattle.rm_machine_laws.{specs.Wanted.{HasChangedSince, IsReadByBitmaps}, proofs.Bitmaps.{not-wanted, tell-switch_all}}

-- Where the current bitmap starts

-- the bitmaps of datafile f start at the checkpoint, where it is tracked
abbrev StartsAt : ℕ → List Tracked → ℕ → Type 0
StartsAt c ts f = (t : Tracked) → tracked_at ts f ≡ Some t → t.start ≡ c

-- so do they after more switches there
starts-on : (c : ℕ) (fs : List ℕ) (ts : List Tracked) (f : ℕ) → StartsAt c ts f → StartsAt c (switch_all c fs ts) f
starts-on c [] ts f starts = starts
starts-on c (g ∷ gs) ts f starts = starts-on c gs (switch_at ts g c) f (λ t found.
    let was = at-file g (switched c) ts f t (λ u. refl) found in
    elim was.2 [
      | inl same ↦ ap (λ (x : Tracked). x.start) same ∙ starts was.0 was.1
      | inr new ↦ ap (λ (x : Tracked). x.start) new
    ])

-- after a switch of its own
starts-own : (c : ℕ) (ts : List Tracked) (f : ℕ) → StartsAt c (switch_at ts f c) f
starts-own c ts f t found =
    let step = switched c in
    let is : option_map step (tracked_at ts f) ≡ Some t = sym (found-same f step ts (λ u. refl)) ∙ found in
    by (tracked_at ts f) is
  where
    by : (o : Option Tracked) → option_map (switched c) o ≡ Some t → t.start ≡ c
    by None none = absurd (cc none)
    by (Some u) some = let new : switched c u ≡ t = cc some in sym (ap (λ (x : Tracked). x.start) new)

starts-switched : (c : ℕ) (fs : List ℕ) (ts : List Tracked) (f : ℕ) → Contains fs f → StartsAt c (switch_all c fs ts) f
starts-switched c [] ts f has = absurd (none-in f has)
starts-switched c (g ∷ gs) ts f has = elim (first-or-rest g gs f has) [
  | inl same ↦ starts-on c gs (switch_at ts g c) f (subst (λ n. StartsAt c (switch_at ts g c) n) same (starts-own c ts g))
  | inr later ↦ starts-switched c gs (switch_at ts g c) f later
]

-- Behind the switches of a BACKUP

-- the datafile of a job is backed up
pub is-taken : (s : State) (b : BackupForm) (jobs : List Job) → AreJobs s b jobs → (j : Job) → Contains jobs j → Contains (taken s b) j.file
is-taken s b jobs are j has = subst (λ fs. Contains fs j.file) are.files (map_to (λ (x : Job). x.file) jobs j has)

-- where changes are tracked each datafile of the current path has bitmaps
pub read-by : (s : State) (b : BackupForm) → IsSound s → tracks s.instance.is_open (ledger s) ≡ true → (j : Job) (from : ℕ) → IsSome (on_path s j.file) → j.from ≡ Some from → IsReadByBitmaps (begun s b) j from
read-by s b sound on j from path begins =
    let ts = switch_all (now_of s) (taken s b) s.instance.tracker in
    let d = some-is (on_path s j.file) path in
    let t = some-is (tracked_at ts j.file) ((tracked-switch_all s (taken s b) sound.tracker).full on j.file d.0 d.1) in
    let by : candidates_in (begun s b) j ≡ candidates_of from t.0 = ap (option_and_then (candidates_at ts j.file)) begins ∙ ap (option_and_then (candidates_of from)) t.1 in
    let old = oldest t.0.ended t.0.start in
    let told : Bool → Option (List Bool) = λ c. cond c None (Some (joined from t.0.ended (unmarked (length t.0.marks)))) in
    record {
      bitmaps = t.0;
      are = t.1;
      known = λ low. ap is_some (by ∙ ap told (le-ltb from old low));
      unknown = λ high. ap (λ (o : Option (List Bool)). option_map_or (blocks_from 0) o (upto 0 (length (rows_in (begun s b) j.file)))) (by ∙ ap told (lt-ltb from old high));
    }

module _ (s : State) (b : BackupForm) (h : List Change) (sound : IsSound s) (keeps : HistoryFits s h) where
  abbrev i : ℕ
  i = current_of s

  abbrev now : ℕ
  now = now_of s

  abbrev ts : List Tracked
  ts = switch_all now (taken s b) s.instance.tracker

  are-tracked : AreTracked (with_tracker s ts)
  are-tracked = tracked-switch_all s (taken s b) sound.tracker

  -- they go on to tell
  pub tell-begun : Tell i h now ts
  tell-begun = tell-switch_all i now h (taken s b) s.instance.tracker (lie-below (tree s) i h keeps.below) keeps.tracker

  -- at `now`, where its backup begins, a block that is no candidate has a version below the parent's checkpoint
  below-now : (j : Job) (k : ℕ) → Contains (taken s b) j.file → (it : IsNoCandidate (begun s b) j k) → (state (world s) h i now j.file k).version < it.from
  below-now j k is_taken it =
      let is : IsTracked (with_tracker s ts) j.file it.tracked = are-tracked.each j.file it.tracked it.found in
      subst (λ c. (state (world s) h i c j.file k).version < it.from) (starts-switched now (taken s b) s.instance.tracker j.file is_taken it.tracked it.found)
      (not-wanted (world s) h i now j.file it.from k ts it.tracked it.marks (parents_below (tree s) sound.catalog.ledger.incarnations) sound.catalog.ledger.current.0
      (λ low has. let start = is.kept low has in (start.reset, start.created)) tell-begun it.found it.are it.inside it.unmarked)

  -- so a level 1 may leave it out
  pub below-begun : (j : Job) (k : ℕ) → Contains (taken s b) j.file → (it : IsNoCandidate (begun s b) j k) → IsBelow (world s) h i j.file now it.from k
  below-begun j k is_taken it = record { position = now; after = omega arith; below = below-now j k is_taken it }

  module _ (jobs : List Job) (are : AreJobs s b jobs) (j : Job) (has : Contains jobs j) (from : ℕ) (t : Tracked) (marks : List Bool) (begins : j.from ≡ Some from) (found : tracked_at ts j.file ≡ Some t) (known : candidates_in (begun s b) j ≡ Some marks) where
    read-blocks : blocks_read (begun s b) j ≡ blocks_from 0 marks
    read-blocks = ap (λ (o : Option (List Bool)). option_map_or (blocks_from 0) o (upto 0 (length (rows_in (begun s b) j.file)))) known

    -- those that are read are marked, and the others are not
    is-read : (k : ℕ) → Contains (blocks_read (begun s b) j) k ↔ IsMarked marks k
    is-read k = (
      (λ reads. let it = blocks-marked 0 marks k (subst (λ ks. Contains ks k) read-blocks reads) in let same : it.0 ≡ k = omega (arith, it.1) in subst (IsMarked marks) same it.2),
      (λ marked. let same : 0 + k ≡ k = omega arith in subst (λ ks. Contains ks k) (sym read-blocks) (subst (Contains (blocks_from 0 marks)) same (marked-block 0 marks k marked))),
    )

    -- the bitmaps go back to the parent's checkpoint, and each block has a mark
    at : candidates_at ts j.file from ≡ Some marks
    at = ap (option_and_then (candidates_at ts j.file)) (sym begins) ∙ known

    has-mark : (k : ℕ) → k < blocks_of (world s) j.file → k < length t.marks
    has-mark k inside = let is : IsTracked (with_tracker s ts) j.file t = are-tracked.each j.file t found in omega (arith, inside, is.blocks)

    pub read-changed : (low : ℕ) → IsStartFor (starts t) from low → (k : ℕ) → k < blocks_of (world s) j.file → (Contains (blocks_read (begun s b) j) k ↔ HasChangedSince s h j.file low k)
    read-changed low for k inside =
        let one = is-read k in
        let told = candidates-found i now j.file from low h ts t marks tell-begun found at for k (has-mark k inside) in
        let both : IsMarked marks k ↔ HasChangedSince s h j.file low k =
        subst (λ n. IsMarked marks k ↔ IsChanged (HasChange i h j.file) low n k) (starts-switched now (taken s b) s.instance.tracker j.file (is-taken s b jobs are j has) t found) told in
        ((λ reads. both.0 (one.0 reads)), (λ changed. one.1 (both.1 changed)))

    -- a block that is not read has a version below the parent's checkpoint
    pub left-below : (k : ℕ) → k < blocks_of (world s) j.file → ¬ Contains (blocks_read (begun s b) j) k → (state (world s) h i now j.file k).version < from
    left-below k inside unread =
        below-now j k (is-taken s b jobs are j has) (record { tracked = t; found = found; from = from; begins = begins; marks = marks; are = at; inside = has-mark k inside; unmarked = λ marked. unread ((is-read k).1 marked) })
