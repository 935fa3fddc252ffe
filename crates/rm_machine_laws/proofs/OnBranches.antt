-- The premises of the laws can be met where a database branched off, by a level 1 too.
use Rattle.std.proofs.Common.{rules, Bool, true, false, cond, Option, zero, suc, ◌-◌, ◌==◌, nat_lt, eqb, slice_get, ◌≡◌, ◌<◌, ◌≤◌, ◌∙◌, inl, inr, ℕ, [], ◌∷◌, Some, None, refl, ap, sym, subst, arith, Contains}
use Rattle.std.proofs.lemmas.{Bool.{and_from, cases_eq, lt-ltb, eq-eqb}, Grind.{common_steps}}
use Rattle.rm_base.specs.{Content.{padded, zero_block}, declared.block.{Block.{Block}, Row.{Row}}}
use Rattle.rm_base.proofs.Members.{behind, first-or-rest, in-front, none-in}
use Rattle.rm_history.specs.{Agrees.{BaseAgrees, IsBelow, IsRow, Level1Agrees, lists}, Artefacts.{Level1}, Evidence.{Agrees}}
use Rattle.rm_history.specs.{FirstGap.{HasGap, IsTarget}, History.{IsChange, IsHistory, SamePlace}}
use Rattle.rm_history.specs.Known.{Determined, HasRow, IsGreatest, Quiet, QuietBetween, Seen, by_absence, by_creation, by_log, by_logs, by_row, in_base, in_level1}
use Rattle.rm_history.specs.{Threads.{IsEnabled}, Tree.{HasParentsBelow, IsTree, owner, parent_of, reset_of}, Unknown.{IsWorld}}
use Rattle.rm_history.{specs.{World.{file_of}, declared.world.Datafile.{Datafile}}, proofs.{Enabled.{unswitched}, Example.{only}}}
use Rattle.rm_history.proofs.{Histories.{IsHistory-push, IsHistory-push_above}, Owners.{owner-first}}
use Rattle.rm_machine_laws.specs.Branched.{at_block, both, branched, left_copy, level1, two}

-- what holds of the two items of a list holds of each
pair : {X : Type 0} (P : X → Type 0) (x y : X) → P x → P y → (z : X) → Contains (x ∷ y ∷ []) z → P z
pair P x y one other z held = elim (first-or-rest x (y ∷ []) z held) [
  | inl same ↦ subst P same one
  | inr rest ↦ only P y other z rest
]

-- The world

parents : HasParentsBelow branched.tree
parents i up = grind (arith, common_steps)

tree : IsTree branched.tree
tree = record {
  some = omega arith;
  few = omega arith;
  parents = parents;
  rooted = λ i low high. let two_is : 2 ≡ i = omega (arith, low, high) in subst (λ k. 0 < parent_of branched.tree k) two_is (omega arith);
  ascends = λ i there. elim (cases_eq i 1) [
    | inl one ↦ subst (λ k. reset_of branched.tree (parent_of branched.tree k) ≤ reset_of branched.tree k) (sym one) (omega arith)
    | inr other ↦
        let two_is : 2 ≡ i = let low = there.0 in let high = there.1 in omega (arith, low, high, other) in
        subst (λ k. reset_of branched.tree (parent_of branched.tree k) ≤ reset_of branched.tree k) two_is (omega arith)
  ];
}

abbrev file : Datafile
file = record { inc = 1; creation = 1; blocks = 2 }

not-none : (none : Bool) (o : Option Datafile) (d : Datafile) → cond none None o ≡ Some d → o ≡ Some d
not-none true o d is = absurd (cc)
not-none false o d is = is

only-file : (d : Datafile) (n : ℕ) → slice_get (file ∷ []) n ≡ Some d → file ≡ d
only-file d zero is = cc
only-file d (suc n) is = absurd (cc)

file-is : (f : ℕ) (d : Datafile) → file_of branched f ≡ Some d → file ≡ d
file-is f d is = only-file d (f - 1) (not-none (eqb f 0) (slice_get (file ∷ []) (f - 1)) d is)

pub world-is : IsWorld branched
world-is = record {
  tree = tree;
  files = λ f d is. subst (λ (x : Datafile). reset_of branched.tree x.inc ≤ x.creation) (file-is f d is) (omega arith);
}

-- who owns what on the path of the second incarnation
owner-1 : owner branched.tree 2 1 ≡ 1
unfolding owner
owner-1 = refl

owner-2 : owner branched.tree 2 2 ≡ 1
unfolding owner
owner-2 = refl

owner-5 : owner branched.tree 2 5 ≡ 2
unfolding owner
owner-5 = refl

-- The history

enabled : (m g : ℕ) → IsEnabled branched m g 1
enabled m g = record { number = (omega arith, omega arith); on = unswitched branched.tree 1 m g 1 }

none-yet : IsHistory branched []
none-yet = record { changes = λ c held. absurd (none-in c held); apart = λ i j d less inside. absurd (omega arith) }

first-change : IsChange branched (at_block 1 2 0 65)
first-change = record {
  thread = enabled 1 2;
  there = (omega arith, omega arith);
  begun = omega arith;
  datafile = file;
  is = refl;
  created = omega arith;
  owned = owner-first branched.tree 1;
  block = omega arith;
}

left-change : IsChange branched (at_block 1 3 1 88)
left-change = record {
  thread = enabled 1 3;
  there = (omega arith, omega arith);
  begun = omega arith;
  datafile = file;
  is = refl;
  created = omega arith;
  owned = owner-first branched.tree 1;
  block = omega arith;
}

last-change : IsChange branched (at_block 2 3 0 66)
last-change = record {
  thread = enabled 2 3;
  there = (omega arith, omega arith);
  begun = omega arith;
  datafile = file;
  is = refl;
  created = omega arith;
  owned = owner-1;
  block = omega arith;
}

one-yet : IsHistory branched (at_block 1 2 0 65 ∷ [])
one-yet = IsHistory-push_above branched [] (at_block 1 2 0 65) none-yet first-change (search rules)

two-yet : IsHistory branched (at_block 1 2 0 65 ∷ at_block 1 3 1 88 ∷ [])
two-yet = IsHistory-push_above branched (at_block 1 2 0 65 ∷ []) (at_block 1 3 1 88) one-yet left-change (search rules)

pub history-is : IsHistory branched both
history-is =
    IsHistory-push branched (at_block 1 2 0 65 ∷ at_block 1 3 1 88 ∷ []) (at_block 2 3 0 66) two-yet last-change
    (pair (λ d. ¬ SamePlace d (at_block 2 3 0 66)) (at_block 1 2 0 65) (at_block 1 3 1 88) (λ same. let clash = same.inc in absurd (omega (arith, clash))) (λ same. let clash = same.inc in absurd (omega (arith, clash))))

-- The evidence

abbrev changed : Row
changed = record { block = 0; version = 2; content = padded (65 ∷ []) }

abbrev created : Row
created = record { block = 1; version = 1; content = zero_block }

abbrev later : Row
later = record { block = 0; version = 3; content = padded (66 ∷ []) }

copy-agrees : BaseAgrees branched both left_copy
unfolding owner
copy-agrees = pair (IsRow branched both 1 1 3) changed created (record { position = 3; after = omega arith; is = refl }) (record { position = 3; after = omega arith; is = refl })

level1-agrees : Level1Agrees branched both level1
unfolding owner
level1-agrees = record {
  listed = only (λ r. IsRow branched both 2 1 5 r × (3 ≤ r.version)) later (record { position = 5; after = omega arith; is = refl }, omega arith);
  unlisted = λ b within none. subst (IsBelow branched both 2 1 5 3) (one b within none) (record { position = 5; after = omega arith; below = omega arith });
}
  where
    one : (b : ℕ) → b < 2 → lists level1.rows b ≡ false → 1 ≡ b
    one b within none = elim (cases_eq b 0) [
      | inl here ↦ absurd (let clash : true ≡ false = ap (lists level1.rows) (sym here) ∙ none in cc)
      | inr other ↦ omega (arith, within, other)
    ]

pub evidence-agrees : Agrees branched both two
evidence-agrees = record {
  bases = only (BaseAgrees branched both) left_copy copy-agrees;
  level1s = only (Level1Agrees branched both) level1 level1-agrees;
  logs = λ a held. absurd (none-in a held);
}

-- What is told

pub target : (s b : ℕ) → 1 < s → b < 2 → IsTarget branched 2 s 1 b
target s b late inside = record {
  there = (omega arith, omega arith);
  datafile = file;
  is = refl;
  exists = and_from (nat_lt 1 s) (owner branched.tree 2 1 == 1) (lt-ltb 1 s late) (eq-eqb (owner branched.tree 2 1) 1 owner-1);
  block = inside;
}

-- the rows of a block
row-of_0 : (j k : ℕ) (r : Row) → HasRow two 1 0 j k r → r.version ≤ 3
row-of_0 _ _ _ (in_base a r base held _ _) = only (λ x. (r : Row) → Contains x.rows r → r.version ≤ 3) left_copy (pair (λ r. r.version ≤ 3) changed created (omega arith) (omega arith)) a base r held
row-of_0 _ _ _ (in_level1 a r listed held _ _) = only (λ x. (r : Row) → Contains x.rows r → r.version ≤ 3) level1 (only (λ r. r.version ≤ 3) later (omega arith)) a listed r held

-- block 1 has one row alone
row-of_1 : (j k : ℕ) (r : Row) → HasRow two 1 1 j k r → (r.version ≡ 1) × (k ≡ 3)
row-of_1 _ _ _ (in_base a r base held _ block) =
    only (λ x. (r : Row) → Contains x.rows r → r.block ≡ 1 → (r.version ≡ 1) × (x.checkpoint ≡ 3)) left_copy
    (pair (λ r. r.block ≡ 1 → (r.version ≡ 1) × (3 ≡ 3)) changed created (λ other. absurd (omega (arith, other))) (λ same. (refl, refl))) a base r held block
row-of_1 _ _ _ (in_level1 a r listed held _ block) =
    only (λ x. (r : Row) → Contains x.rows r → r.block ≡ 1 → (r.version ≡ 1) × (x.checkpoint ≡ 3)) level1
    (only (λ r. r.block ≡ 1 → (r.version ≡ 1) × (5 ≡ 3)) later (λ other. absurd (omega (arith, other)))) a listed r held block

seen-0 : (m u : ℕ) (x : Block) → Seen branched two 1 0 m u x → u ≤ 3
seen-0 _ _ _ (by_row j k r has) = row-of_0 j k r has
seen-0 _ _ _ (by_log a c has) = absurd (none-in a has.log)
seen-0 _ _ _ (by_creation d is) = subst (λ (x : Datafile). x.creation ≤ 3) (file-is 1 d is) (omega arith)

seen-1 : (m u : ℕ) (x : Block) → Seen branched two 1 1 m u x → u ≤ 1
seen-1 _ _ _ (by_row j k r has) = let version = (row-of_1 j k r has).0 in omega (arith, version)
seen-1 _ _ _ (by_log a c has) = absurd (none-in a has.log)
seen-1 _ _ _ (by_creation d is) = subst (λ (x : Datafile). x.creation ≤ 1) (file-is 1 d is) (omega arith)

has-later : HasRow two 1 0 2 5 later
has-later = in_level1 level1 later (in-front level1 []) (in-front later []) refl refl

has-created : HasRow two 1 1 1 3 created
has-created = in_base left_copy created (in-front left_copy []) (behind changed (created ∷ []) created (in-front created [])) refl refl

seen-later : Seen branched two 1 0 (owner branched.tree 2 3) 3 (padded (66 ∷ []))
seen-later = by_row 2 5 later has-later

seen-created : Seen branched two 1 1 (owner branched.tree 2 1) 1 zero_block
seen-created = subst (λ m. Seen branched two 1 1 m 1 zero_block) (owner-first branched.tree 1 ∙ sym owner-1) (by_row 1 3 created has-created)

pub told-0 : Determined branched two 2 5 1 0 3 (padded (66 ∷ []))
told-0 = record {
  greatest = record { below = omega arith; content = padded (66 ∷ []); seen = seen-later; most = λ u x below seen. seen-0 (owner branched.tree 2 u) u x seen };
  seen = seen-later;
  quiet = λ g above below.
      let four : 4 ≡ g = omega (arith, above, below) in
      subst (λ n. Quiet branched two 1 0 (owner branched.tree 2 n) n) four (by_row 2 5 later has-later (omega arith) (omega arith) refl);
}

greatest-1 : (s : ℕ) → 1 < s → IsGreatest branched two 2 s 1 1 1
greatest-1 s late = record { below = late; content = zero_block; seen = seen-created; most = λ u x below seen. seen-1 (owner branched.tree 2 u) u x seen }

-- up to the checkpoint of the copy by its row, and from there on since the level 1 does not list the block
quiet-1 : QuietBetween branched two 2 1 5 1 1
quiet-1 g above below = elim (cases_eq g 2) [
  | inl before ↦
      subst (λ n. Quiet branched two 1 1 (owner branched.tree 2 n) n) (sym before) (by_row 1 3 created has-created (omega arith) (omega arith) (owner-first branched.tree 2 ∙ sym owner-2))
  | inr behind_it ↦ by_absence level1 (in-front level1 []) refl refl (omega (arith, above, behind_it)) below refl
]

pub told-1 : Determined branched two 2 5 1 1 1 zero_block
told-1 = record { greatest = greatest-1 5 (omega arith); seen = seen-created; quiet = quiet-1 }

not-quiet : ¬ Quiet branched two 1 1 2 5
not-quiet (by_row j k r has low before owned) = let at = (row-of_1 j k r has).1 in omega (arith, at, before)
not-quiet (by_absence a listed file none from before owned) =
    let at : a.checkpoint ≤ 5 = only (λ (x : Level1). x.checkpoint ≤ 5) level1 (omega arith) a listed in
    omega (arith, at, before)
not-quiet (by_logs each none) = let has = each 1 (enabled 2 5) in none-in has.log has.holds.log

pub gap : HasGap branched two 2 6 1 1 2 5
gap = record {
  version = 1;
  is = record {
    greatest = greatest-1 6 (omega arith);
    above = omega arith;
    below = omega arith;
    owned = owner-5;
    unknown = not-quiet;
    least = quiet-1;
  };
}
