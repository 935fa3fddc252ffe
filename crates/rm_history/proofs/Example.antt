-- The premises of the laws can be met.
use Rattle.std.proofs.Common.{rules, Bool, true, false, cond, Option, zero, suc, ◌-◌, ◌==◌, nat_lt, eqb, slice_get, ◌≡◌, ◌<◌, ◌≤◌, ◌∙◌, inl, inr, ℕ, [], ◌∷◌, ◌++◌, Some, None, refl, sym, subst, arith, Contains}
use Rattle.std.proofs.lemmas.{Bool.{and_from, le-leb, lt-ltb, eq-eqb}, Grind.{common_steps}}
use Rattle.rm_base.specs.{Content.{padded, zero_block}, declared.block.{Block.{Block}, Change.{Change}, Row.{Row}}}
use Rattle.rm_base.proofs.Members.{in-front, none-in, first-or-rest}
use Rattle.rm_history.specs.{Threads.{IsEnabled}, Tree.{IsTree, owner, parent_of, reset_of}, World.{file_of}, History.{IsChange, IsHistory}}
use Rattle.rm_history.specs.{Agrees.{IsRow, BaseAgrees, LogAgrees}, Evidence.{Agrees}}
use Rattle.rm_history.specs.Known.{HasRow, in_base, in_level1, Seen, by_row, by_log, by_creation, Quiet, by_absence, by_logs, IsGreatest, Determined}
use Rattle.rm_history.specs.{FirstGap.{IsTarget, HasGap, IsFirstGap}, Unknown.{IsWorld}}
use Rattle.rm_history.specs.{Example.{world, change, history, copy, log, evidence}, declared.world.Datafile.{Datafile}}
use Rattle.rm_history.proofs.{Histories.{IsHistory-push_above}, Owners.{owner-first}, Enabled.{unswitched}}

-- what holds of the only item holds of each
pub only : {X : Type 0} (P : X → Type 0) (x : X) → P x → (y : X) → Contains (x ∷ []) y → P y
only P x here y held = elim (first-or-rest x [] y held) [
  | inl same ↦ subst P same here
  | inr rest ↦ absurd (none-in y rest)
]

tree : IsTree world.tree
tree = record {
  some = omega arith;
  few = omega arith;
  parents = λ i up. grind (arith, common_steps);
  rooted = λ i low high. absurd (omega arith);
  ascends = λ i there. let one : 1 ≡ i = let low = there.0 in let high = there.1 in omega (arith, low, high) in subst (λ k. reset_of world.tree (parent_of world.tree k) ≤ reset_of world.tree k) one (omega arith);
}

-- the file, and its first row
abbrev pub file : Datafile
file = record { inc = 1; creation = 1; blocks = 1 }

abbrev row : Row
row = record { block = 0; version = 1; content = zero_block }

not-none : (none : Bool) (o : Option Datafile) (d : Datafile) → cond none None o ≡ Some d → o ≡ Some d
not-none true o d is = absurd (cc)
not-none false o d is = is

only-file : (d : Datafile) (n : ℕ) → slice_get (file ∷ []) n ≡ Some d → file ≡ d
only-file d zero is = cc
only-file d (suc n) is = absurd (cc)

pub file-is : (f : ℕ) (d : Datafile) → file_of world f ≡ Some d → file ≡ d
file-is f d is = only-file d (f - 1) (not-none (eqb f 0) (slice_get (file ∷ []) (f - 1)) d is)

pub world-is : IsWorld world
world-is = record {
  tree = tree;
  files = λ f d is. subst (λ (x : Datafile). reset_of world.tree x.inc ≤ x.creation) (file-is f d is) (omega arith);
}

-- no thread is switched, so its two threads are enabled everywhere
enabled : (m g t : ℕ) → 0 < t → t ≤ 2 → IsEnabled world m g t
enabled m g t some low = record { number = (some, omega arith); on = unswitched world.tree 2 m g t ∙ le-leb t 2 low }

is-change : (t g x : ℕ) → (0 < t) × (t ≤ 2) → 1 < g → IsChange world (change t g x)
is-change t g x thread late = record {
  thread = enabled 1 g t thread.0 thread.1;
  there = (omega arith, omega arith);
  begun = omega (arith, late);
  datafile = file;
  is = refl;
  created = late;
  owned = owner-first world.tree 1;
  block = omega arith;
}

none-yet : IsHistory world []
none-yet = record { changes = λ c held. absurd (none-in c held); apart = λ i j d less inside. absurd (omega arith) }

one-yet : IsHistory world (change 1 2 65 ∷ [])
one-yet = IsHistory-push_above world [] (change 1 2 65) none-yet (is-change 1 2 65 (omega arith, omega arith) (omega arith)) (search rules)

pub history-is : IsHistory world history
history-is =
    IsHistory-push_above world (change 1 2 65 ∷ []) (change 2 3 66) one-yet (is-change 2 3 66 (omega arith, omega arith) (omega arith)) (search rules)

pub history-longer : IsHistory world (history ++ change 2 4 67 ∷ [])
history-longer =
    IsHistory-push_above world history (change 2 4 67) history-is (is-change 2 4 67 (omega arith, omega arith) (omega arith)) (search rules)

copy-agrees : BaseAgrees world history copy
unfolding owner
copy-agrees = only (IsRow world history 1 1 2) row (record { position = 2; after = omega arith; is = refl })

pub evidence-agrees : Agrees world history evidence
evidence-agrees = record {
  bases = only (BaseAgrees world history) copy copy-agrees;
  level1s = λ a held. absurd (none-in a held);
  logs = only (LogAgrees history) log refl;
}

pub target : (s : ℕ) → 1 < s → IsTarget world 1 s 1 0
target s late = record {
  there = (omega arith, omega arith);
  datafile = file;
  is = refl;
  exists = and_from (nat_lt 1 s) (owner world.tree 1 1 == 1) (lt-ltb 1 s late) (eq-eqb (owner world.tree 1 1) 1 (owner-first world.tree 1));
  block = omega arith;
}

row-first : (j k : ℕ) (r : Row) → HasRow evidence 1 0 j k r → (r.version ≡ 1) × (k ≡ 2)
row-first _ _ _ (in_base a r base held _ _) =
    only (λ x. (r : Row) → Contains x.rows r → (r.version ≡ 1) × (x.checkpoint ≡ 2)) copy (only (λ r. (r.version ≡ 1) × (2 ≡ 2)) row (refl, refl)) a base r held
row-first _ _ _ (in_level1 a r level1 held _ _) = absurd (none-in a level1)

seen-low : (m u : ℕ) (x : Block) → Seen world evidence 1 0 m u x → u ≤ 2
seen-low _ _ _ (by_row j k r has) = let first = (row-first j k r has).0 in omega (arith, first)
seen-low _ _ _ (by_log a c has) =
    only (λ x. (c : Change) → Contains x.changes c → c.scn ≤ 2) log (only (λ c. c.scn ≤ 2) (change 1 2 65) (omega arith)) a has.log c has.change
seen-low _ _ _ (by_creation d is) = subst (λ (x : Datafile). x.creation ≤ 2) (file-is 1 d is) (omega arith)

seen-by_log : Seen world evidence 1 0 (owner world.tree 1 2) 2 (padded (65 ∷ []))
seen-by_log =
    subst (λ m. Seen world evidence 1 0 m 2 (padded (65 ∷ []))) (sym (owner-first world.tree 2))
    (by_log log (change 1 2 65) (record { log = in-front log []; change = in-front (change 1 2 65) []; file = refl; block = refl }))

greatest : (s : ℕ) → 2 < s → IsGreatest world evidence 1 s 1 0 2
greatest s late = record {
  below = omega (arith, late);
  content = padded (65 ∷ []);
  seen = seen-by_log;
  most = λ u x below seen. seen-low (owner world.tree 1 u) u x seen;
}

pub told : Determined world evidence 1 3 1 0 2 (padded (65 ∷ []))
told = record {
  greatest = greatest 3 (omega arith);
  seen = seen-by_log;
  quiet = λ g above below. absurd (omega arith);
}

not-quiet : ¬ Quiet world evidence 1 0 1 3
not-quiet (by_row j k r has low before owned) = let at = (row-first j k r has).1 in omega (arith, at, before)
not-quiet (by_absence a level1 file absent from before owned) = none-in a level1
not-quiet (by_logs each none) =
    let has = each 2 (enabled 1 3 2 (omega arith) (omega arith)) in
    only (λ a. ¬ (a.thread ≡ 2)) log (λ is. absurd (omega arith)) has.log has.holds.log has.thread

pub gap : HasGap world evidence 1 4 1 0 1 3
gap = record {
  version = 2;
  is = record {
    greatest = greatest 4 (omega arith);
    above = omega arith;
    below = omega arith;
    owned = owner-first world.tree 3;
    unknown = not-quiet;
    least = λ g above below. absurd (omega arith);
  };
}

pub first-gap : IsFirstGap world evidence 1 4 1 0 1 3
first-gap = record {
  target = target 4 (omega arith);
  gap = gap;
  least = λ c d here before. elim before [
    | inl less ↦
        let none : c ≡ 0 = omega (arith, less) in
        let is : None ≡ Some here.datafile = subst (λ f. file_of world f ≡ Some here.datafile) none here.is in
        absurd (cc)
    | inr same ↦ let less = same.1 in absurd (omega (arith, less))
  ];
}
