-- The premises of the law can be met where something goes, and with checkpoints in place of `high` the law
-- would not hold.
use Rattle.std.proofs.Common.{rules, Bool, true, false, cond, Option, zero, suc, ◌-◌, eqb, slice_get, ◌≡◌, ◌<◌, ◌≤◌, ◌∙◌, inl, inr, ℕ, [], ◌∷◌, Some, None, refl, sym, subst, arith, map, Contains}
use Rattle.std.proofs.lemmas.Bool.{leb-true}
use Rattle.rm_base.specs.{Content.{padded}, declared.block.{Block.{Block}, Change.{Change}, Row.{Row}}}
use Rattle.rm_base.proofs.Members.{in-front, behind, none-in, first-or-rest}
use Rattle.rm_history.specs.{Artefacts.{Base}, Threads.{IsEnabled}, Tree.{owner, segment_end, is_on_path}, World.{file_of}}
use Rattle.rm_history.specs.{History.{IsChange, IsHistory}, Agrees.{IsRow, BaseAgrees, LogAgrees}, Evidence.{Agrees}}
use Rattle.rm_history.specs.Known.{HasRow, in_base, in_level1, Seen, by_row, by_log, by_creation, Quiet, by_absence, by_logs, Determined}
use Rattle.rm_history.specs.{FirstGap.{IsTarget, IsDetermined}, Unknown.{IsWorld}, declared.world.Datafile.{Datafile}}
use Rattle.rm_history.proofs.{Enabled.{unswitched}, Histories.{IsHistory-push_above}, Owners.{owner-first}}
use Rattle.rm_history.proofs.Example as known
use Rattle.rm_retain.specs.Chosen.{IsChosen, chosen, floor}
use Rattle.rm_retain.specs.Example.{world, change, history, row, first, second, late, log, before, after, backup, window}
use Rattle.rm_retain.specs.Losing.{IsWhole, HasCopy, IsGone, LosesNeedless, FitsHistory}
use Rattle.rm_retain.specs.{Obsolete.{of_current, ClipsTo, IsNeedlessBackup, IsNeedlessLog}, Window.{IsInWindow}}
use Rattle.rm_retain.specs.declared.copies.Backup.{Backup}

-- the tree and the datafile are those of the other example
pub is_world : IsWorld world
is_world = record { tree = known.world-is.tree; files = known.world-is.files }

not_none : (none : Bool) (o : Option Datafile) (d : Datafile) → cond none None o ≡ Some d → o ≡ Some d
not_none true o d is = absurd (cc)
not_none false o d is = is

only_place : (x d : Datafile) (n : ℕ) → slice_get (x ∷ []) n ≡ Some d → n ≡ 0
only_place x d zero is = refl
only_place x d (suc n) is = absurd (cc)

-- there is no other datafile
file_one : (f : ℕ) (d : Datafile) → file_of world f ≡ Some d → f ≡ 1
file_one zero d is = absurd (cc)
file_one (suc f) d is =
    let place = only_place known.file d (suc f - 1) (not_none (eqb (suc f) 0) (slice_get world.files (suc f - 1)) d is) in
    omega (arith, place)

-- no thread is switched, so its one thread is enabled everywhere
enabled : (m g : ℕ) → IsEnabled world m g 1
enabled m g = record { number = (omega arith, omega arith); on = unswitched world.tree 1 m g 1 }

is_change : (g x : ℕ) → 1 < g → IsChange world (change g x)
is_change g x up = record {
  thread = enabled 1 g;
  there = (omega arith, omega arith);
  begun = omega (arith, up);
  datafile = known.file;
  is = refl;
  created = up;
  owned = owner-first world.tree 1;
  block = omega arith;
}

none_yet : IsHistory world []
none_yet = record { changes = λ c held. absurd (none-in c held); apart = λ i j d less inside. absurd (omega arith) }

one_yet : IsHistory world (change 2 65 ∷ [])
one_yet = IsHistory-push_above world [] (change 2 65) none_yet (is_change 2 65 (omega arith)) (search rules)

pub history_is : IsHistory world history
history_is = IsHistory-push_above world (change 2 65 ∷ []) (change 4 66) one_yet (is_change 4 66 (omega arith)) (search rules)

first_agrees : BaseAgrees world history first
unfolding owner
first_agrees = known.only (IsRow world history 1 1 3) (row 2 65) (record { position = 3; after = omega arith; is = refl })

second_agrees : BaseAgrees world history second
unfolding owner
second_agrees = known.only (IsRow world history 1 1 4) (row 2 65) (record { position = 4; after = omega arith; is = refl })

late_agrees : BaseAgrees world history late
unfolding owner
late_agrees = known.only (IsRow world history 1 1 4) (row 4 66) (record { position = 5; after = omega arith; is = refl })

-- what holds of both backups holds of each
either : (P : Base → Type 0) (x : Base) → P first → P x → (a : Base) → Contains (first ∷ x ∷ []) a → P a
either P x one other a held = elim (first-or-rest first (x ∷ []) a held) [
  | inl same ↦ subst P same one
  | inr rest ↦ known.only P x other a rest
]

before_agrees : (x : Base) → BaseAgrees world history x → Agrees world history (before x)
before_agrees x agrees = record {
  bases = either (BaseAgrees world history) x first_agrees agrees;
  level1s = λ a held. absurd (none-in a held);
  logs = known.only (LogAgrees history) log refl;
}

pub fits : (x : Base) → BaseAgrees world history x → FitsHistory history (window 4) (before x)
fits x agrees = record {
  world = is_world;
  there = (omega arith, omega arith);
  end = omega arith;
  history = history_is;
  agrees = before_agrees x agrees;
}

pub fits_second : FitsHistory history (window 4) (before second)
fits_second = fits second second_agrees

pub fits_late : FitsHistory history (window 4) (before late)
fits_late = fits late late_agrees

-- the floor is the checkpoint of the second backup, which alone is chosen
floor_is : floor (window 4) 1 ≡ 4
unfolding is_on_path segment_end
floor_is = refl

chosen_is : map (λ (x : Backup). x.id) (chosen (window 4) 1) ≡ 2 ∷ []
unfolding is_on_path segment_end
chosen_is = refl

not_first : ¬ IsChosen (window 4) 1 1
not_first held = elim (first-or-rest 2 [] 1 (subst (λ ids. Contains ids 1) chosen_is held)) [
  | inl same ↦ absurd (omega (arith, same))
  | inr rest ↦ absurd (none-in 1 rest)
]

pub first_needless : IsNeedlessBackup (window 4) (backup 1 3 3)
first_needless = record {
  low = λ path. record { clip = 3; is = of_current refl; most = omega (arith, floor_is) };
  not_chosen = λ path. not_first;
}

pub log_needless : IsNeedlessLog (window 4) 1 4
log_needless f path =
    subst (λ n. ClipsTo (window 4) 1 4 (floor (window 4) n)) (sym (file_one f path.datafile path.is))
    (record { clip = 4; is = of_current refl; most = omega (arith, floor_is) })

-- a copy with the row of block 0 has a row of each block
whole : (checkpoint : ℕ) (r : Row) → r.block ≡ 0 → IsWhole world (record { inc = 1; file = 1; checkpoint = checkpoint; rows = r ∷ [] })
whole checkpoint r none b inside = (r, in-front r [], omega (arith, none, inside))

pub loses : LosesNeedless (window 4) (before second) (after second)
loses = record {
  bases_had = λ a held. behind first (second ∷ []) a held;
  level1s_had = λ a held. held;
  logs_had = λ a held. absurd (none-in a held);
  bases = λ a held. elim (first-or-rest first (second ∷ []) a held) [
    | inl same ↦ inr (subst (λ (x : Base). IsGone (window 4) x.inc x.file x.checkpoint x.rows) same (record { backup = backup 1 3 3; described = record { inc = refl; file = refl; checkpoint = refl; high = refl }; needless = first_needless }))
    | inr rest ↦ inl rest
  ];
  level1s = λ a held. inl held;
  logs = λ a held. inr (known.only (λ x. IsNeedlessLog (window 4) x.inc x.next) log log_needless a held);
  copies = λ x held. elim (first-or-rest (backup 1 3 3) (backup 2 4 4 ∷ []) x held) [
    | inl same ↦ inr (subst (IsNeedlessBackup (window 4)) same first_needless)
    | inr rest ↦ inl (known.only (HasCopy world (after second)) (backup 2 4 4) (record { copy = second; held = in-front second []; described = record { inc = refl; file = refl; checkpoint = refl; high = refl }; whole = whole 4 (row 2 65) refl }) x rest)
  ];
}

pub in_window : IsInWindow (window 4) 1 4
in_window = record { first = omega arith; last = omega arith; owned = owner-first world.tree 4 }

pub block_is : IsTarget world 1 4 1 0
block_is =
    let t = known.target 4 (omega arith) in
    record { there = t.there; datafile = t.datafile; is = t.is; exists = t.exists; block = t.block }

-- the first backup has the block
has_first : (x : Base) → HasRow (before x) 1 0 1 3 (row 2 65)
has_first x = in_base first (row 2 65) (in-front first (x ∷ [])) (in-front (row 2 65) []) refl refl

seen_two : (x : Base) → Seen world (before x) 1 0 (owner world.tree 1 2) 2 (padded (65 ∷ []))
seen_two x = by_row 1 3 (row 2 65) (has_first x)

-- nothing else is seen of it below 4, where the other backup has no other version there
row_low : (x : Base) → ((r : Row) → Contains x.rows r → r.version < 4 → r.version ≤ 2) → (j k : ℕ) (r : Row) → HasRow (before x) 1 0 j k r → r.version < 4 → r.version ≤ 2
row_low x own _ _ _ (in_base a r base held _ _) below =
    either (λ a. (r : Row) → Contains a.rows r → r.version < 4 → r.version ≤ 2) x (known.only (λ r. r.version < 4 → r.version ≤ 2) (row 2 65) (λ low. omega arith)) own a base r held below
row_low x own _ _ _ (in_level1 a r level1 held _ _) below = absurd (none-in a level1)

seen_low : (x : Base) → ((r : Row) → Contains x.rows r → r.version < 4 → r.version ≤ 2) → (m u : ℕ) (y : Block) → u < 4 → Seen world (before x) 1 0 m u y → u ≤ 2
seen_low x own _ _ _ below (by_row j k r has) = row_low x own j k r has below
seen_low x own _ _ _ below (by_log a c has) =
    known.only (λ y. (c : Change) → Contains y.changes c → c.scn ≤ 2) log (known.only (λ c. c.scn ≤ 2) (change 2 65) (omega arith)) a has.log c has.change
seen_low x own _ _ _ below (by_creation d is) = subst (λ (y : Datafile). y.creation ≤ 2) (known.file-is 1 d is) (omega arith)

-- the log tells that it was quiet at 3
quiet_three : (x : Base) (m g : ℕ) → m ≡ 1 → 2 < g → g < 4 → Quiet world (before x) 1 0 m g
quiet_three x m g one up down =
    by_logs (λ t thread. record {
      log = log;
      holds = record { log = in-front log []; inc = sym one; first = omega (arith, up); next = down };
      thread = let low = thread.number.0 in let high = leb-true t 1 (sym (unswitched world.tree 1 m g t) ∙ thread.on) in omega (arith, low, high);
    })
    (λ a c holds has.
    known.only (λ y. (c : Change) → Contains y.changes c → ¬ (c.scn ≡ g)) log (known.only (λ c. ¬ (c.scn ≡ g)) (change 2 65) (λ same. absurd (omega (arith, same, up)))) a has.log c has.change)

told : (x : Base) → ((r : Row) → Contains x.rows r → r.version < 4 → r.version ≤ 2) → Determined world (before x) 1 4 1 0 2 (padded (65 ∷ []))
told x own = record {
  greatest = record {
    below = omega arith;
    content = padded (65 ∷ []);
    seen = seen_two x;
    most = λ u y below seen. seen_low x own (owner world.tree 1 u) u y below seen;
  };
  seen = seen_two x;
  quiet = λ g above below. quiet_three x (owner world.tree 1 g) g (owner-first world.tree g) above below;
}

pub told_second : Determined world (before second) 1 4 1 0 2 (padded (65 ∷ []))
told_second = told second (known.only (λ r. r.version < 4 → r.version ≤ 2) (row 2 65) (λ below. omega arith))

pub told_late : Determined world (before late) 1 4 1 0 2 (padded (65 ∷ []))
told_late = told late (known.only (λ r. r.version < 4 → r.version ≤ 2) (row 4 66) (λ below. absurd (omega (arith, below))))

-- the late backup alone has nothing below 4
late_row : (j k : ℕ) (r : Row) → HasRow (after late) 1 0 j k r → r.version ≡ 4
late_row _ _ _ (in_base a r base held _ _) =
    known.only (λ a. (r : Row) → Contains a.rows r → r.version ≡ 4) late (known.only (λ r. r.version ≡ 4) (row 4 66) refl) a base r held
late_row _ _ _ (in_level1 a r level1 held _ _) = absurd (none-in a level1)

late_seen : (m v : ℕ) (x : Block) → Seen world (after late) 1 0 m v x → v < 4 → v ≤ 1
late_seen _ _ _ (by_row j k r has) below = let at = late_row j k r has in absurd (omega (arith, at, below))
late_seen _ _ _ (by_log a c has) below = absurd (none-in a has.log)
late_seen _ _ _ (by_creation d is) below = subst (λ (y : Datafile). y.creation ≤ 1) (known.file-is 1 d is) (omega arith)

not_quiet : (m : ℕ) → ¬ Quiet world (after late) 1 0 m 2
not_quiet m (by_row j k r has low above owned) = let at = late_row j k r has in omega (arith, at, low)
not_quiet m (by_absence a level1 file absent from above owned) = none-in a level1
not_quiet m (by_logs each none) = let has = each 1 (enabled m 2) in none-in has.log has.holds.log

pub lost : ¬ IsDetermined world (after late) 1 4 1 0
lost told =
    let low : told.version ≤ 1 = late_seen (owner world.tree 1 told.version) told.version told.content told.is.seen told.is.greatest.below in
    not_quiet (owner world.tree 1 2) (told.is.quiet 2 (omega (arith, low)) (omega arith))

-- with the true `high` the first backup is chosen
pub first_chosen : IsChosen (window 5) 1 1
unfolding is_on_path segment_end
first_chosen = (0, omega arith, refl)
