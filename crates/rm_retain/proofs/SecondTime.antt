-- Retention by what it left asks for nothing more to go.
use Rattle.std.specs.Option.{option_map_or}
use Rattle.std.proofs.Common.{◌≡◌, ◌<◌, ◌≤◌, ◌+◌, ◌∙◌, ◌⊎◌, ◌==◌, ◌&&◌, ◌||◌, inl, inr, nat_lt, nat_le, ℕ, zero, suc, List, [], ◌∷◌, Bool, true, Option, ap, sym, subst, arith, filter, map, Contains}
use Rattle.std.proofs.lemmas.Bool.{cases_lt, cases_order, eq-eqb, eqb-true, le-leb, leb-true, lt-ltb, ltb-true, Decides.{nat_tests}}
use Rattle.std.proofs.lemmas.List.Sums.{length-filter}
use Rattle.rm_base.proofs.{Members.{first-or-rest}, Lists.{filter_from, filter_to, find_cases, find_none, find_passing, map_from, map_to}}
use Rattle.rm_history.specs.World.{creation_of}
use Rattle.rm_retain.specs.Chosen.{Retention, is_candidate, candidates, is_newer, rank, nth_newest, wanted, chosen, IsChosen, floor}
use Rattle.rm_retain.specs.{Obsolete.{ClipsTo, IsOnPath, IsNeedlessBackup, IsNeedlessLog}, Remaining.{AreRemaining, with_copies}}
use Rattle.rm_retain.{specs.declared.copies.Backup.{Backup}, proofs.FloorCopies.{candidate_parts}}
use Rattle.rm_retain.proofs.Ranks.{IsRising, candidates_ascend, rising_filter, rising_from, part_length, part_shorter}

trans_of : (a b c i j k : ℕ) → (nat_lt b a || ((a == b) && nat_lt j i)) ≡ true → (nat_lt c b || ((b == c) && nat_lt k j)) ≡ true → (nat_lt c a || ((a == c) && nat_lt k i)) ≡ true
trans_of a b c i j k first second = grind (arith, nat_tests)

pub never_of : (a i : ℕ) → (nat_lt a a || ((a == a) && nat_lt i i)) ≡ true → ⊥
never_of a i h = grind (arith, nat_tests)

pub above_of : (a b i j : ℕ) → b < a → (nat_lt b a || ((a == b) && nat_lt j i)) ≡ true
above_of a b i j h = grind (arith, nat_tests)

before_then : (x y z : Backup) → is_newer x y ≡ true → is_newer y z ≡ true → is_newer x z ≡ true
before_then x y z first second = trans_of x.checkpoint y.checkpoint z.checkpoint x.id y.id z.id first second

-- of two copies one comes before, or both have one checkpoint
total : (x y : Backup) → (x.checkpoint ≡ y.checkpoint) ⊎ ((is_newer x y ≡ true) ⊎ (is_newer y x ≡ true))
total x y = elim (cases_order x.checkpoint y.checkpoint) [
  | inl same ↦ inl same
  | inr (inl less) ↦ inr (inr (above_of y.checkpoint x.checkpoint y.id x.id less))
  | inr (inr less) ↦ inr (inl (above_of x.checkpoint y.checkpoint x.id y.id less))
]

-- in a list that ascends each id is of one item
pub rising_one : (xs : List Backup) (a b : Backup) → IsRising xs → Contains xs a → Contains xs b → a.id ≡ b.id → a ≡ b
rising_one [] a b rise first second same = absurd (omega (arith, first.1))
rising_one (x ∷ xs) a b rise first second same = elim (first-or-rest x xs a first) [
  | inl here ↦ elim (first-or-rest x xs b second) [
    | inl there ↦ sym here ∙ there
    | inr later ↦ let up : x.id < b.id = rise.0 b later in let id : x.id ≡ a.id = ap (λ (k : Backup). k.id) here in absurd (omega (arith, up, id, same))
  ]
  | inr later ↦ elim (first-or-rest x xs b second) [
    | inl there ↦ let up : x.id < a.id = rise.0 a later in let id : x.id ≡ b.id = ap (λ (k : Backup). k.id) there in absurd (omega (arith, up, id, same))
    | inr also ↦ rising_one xs a b rise.1 later also same
  ]
]

-- of the candidates cs the rest ds has all that are among the first n
module _ (cs ds : List Backup) (n : ℕ) (rise : IsRising cs) (rise_left : IsRising ds) (had : (z : Backup) → Contains ds z → Contains cs z) (low : (z : Backup) → Contains cs z → rank cs z < n → Contains ds z) where
  -- what comes before x ranks lower
  pub rank_rises : (y x : Backup) → Contains cs y → is_newer y x ≡ true → rank cs y < rank cs x
  rank_rises y x held before =
      let p : Backup → Bool = λ z. is_newer z y in
      let q : Backup → Bool = λ z. is_newer z x in
      let less = part_shorter (filter p cs) (filter q cs) y (rising_filter p cs rise) (rising_filter q cs rise)
      (λ z has. let from = filter_from p cs z has in filter_to q cs z from.0 (before_then z y x from.1 before))
      (filter_to q cs y held before)
      (λ z has same. let from = filter_from p cs z has in never_of y.checkpoint y.id (subst (λ (k : Backup). is_newer k y ≡ true) (rising_one cs z y rise from.0 held same) from.1)) in
      let one = length-filter p cs in
      let two = length-filter q cs in
      omega (arith, less, one, two)

  rank_left : (y x : Backup) → is_newer y x ≡ true → rank ds y ≤ rank ds x
  rank_left y x before =
      let p : Backup → Bool = λ z. is_newer z y in
      let q : Backup → Bool = λ z. is_newer z x in
      let most = part_length (filter p ds) (filter q ds) (rising_filter p ds rise_left) (rising_filter q ds rise_left)
      (λ z has. let from = filter_from p ds z has in filter_to q ds z from.0 (before_then z y x from.1 before)) in
      let one = length-filter p ds in
      let two = length-filter q ds in
      omega (arith, most, one, two)

  rank_falls : (x : Backup) → rank ds x ≤ rank cs x
  rank_falls x =
      let q : Backup → Bool = λ z. is_newer z x in
      let most = part_length (filter q ds) (filter q cs) (rising_filter q ds rise_left) (rising_filter q cs rise)
      (λ z has. let from = filter_from q ds z has in filter_to q cs z (had z from.0) from.1) in
      let one = length-filter q ds in
      let two = length-filter q cs in
      omega (arith, most, one, two)

  -- where all that come before x are among the first n, x ranks as it did
  rank_stays : (x : Backup) → ((z : Backup) → Contains cs z → is_newer z x ≡ true → rank cs z < n) → rank cs x ≤ rank ds x
  rank_stays x all =
      let q : Backup → Bool = λ z. is_newer z x in
      let most = part_length (filter q cs) (filter q ds) (rising_filter q cs rise) (rising_filter q ds rise_left)
      (λ z has. let from = filter_from q cs z has in filter_to q ds z (low z from.0 (all z from.0 from.1)) from.1) in
      let one = length-filter q ds in
      let two = length-filter q cs in
      omega (arith, most, one, two)

  pub same_rank : (x : Backup) → rank cs x < n → rank ds x ≡ rank cs x
  same_rank x first =
      let up = rank_stays x (λ z held before. let less = rank_rises z x held before in omega (arith, less, first)) in
      let down = rank_falls x in
      omega (arith, up, down)

  high_step : (x : Backup) → ((y : Backup) → rank cs y < rank cs x → n ≤ rank cs y → n ≤ rank ds y) → n ≤ rank cs x → n ≤ rank ds x
  high_step x again high =
      let q : Backup → Bool = λ z. is_newer z x in
      elim (find_passing (λ z. nat_le n (rank cs z)) (filter q cs)) [
        | inr none ↦
            let up = rank_stays x (λ z held before. elim (cases_lt (rank cs z) n) [
              | inl less ↦ less
              | inr most ↦ absurd (none z (filter_to q cs z held before) (le-leb n (rank cs z) most))
            ]) in
            omega (arith, up, high)
        | inl found ↦
            let from = filter_from q cs found.0 found.1 in
            let most = rank_left found.0 x from.1 in
            let rest = again found.0 (rank_rises found.0 x from.0 from.1) (leb-true n (rank cs found.0) found.2) in
            omega (arith, rest, most)
      ]

  high_within : (k : ℕ) (x : Backup) → rank cs x ≤ k → n ≤ rank cs x → n ≤ rank ds x
  high_within zero x few high = high_step x (λ y less also. absurd (omega (arith, less, few))) high
  high_within (suc k) x few high = high_step x (λ y less also. high_within k y (omega (arith, less, few)) also) high

  -- what was not among the first n does not come to be
  pub high_rank : (x : Backup) → n ≤ rank cs x → n ≤ rank ds x
  high_rank x high = high_within (rank cs x) x (omega arith) high

  first_again : (x : Backup) → rank ds x < n → rank cs x < n
  first_again x first = elim (cases_lt (rank cs x) n) [
    | inl less ↦ less
    | inr high ↦ let also = high_rank x high in absurd (omega (arith, also, first))
  ]

  -- two of one rank have one checkpoint
  one_checkpoint : (x y : Backup) → Contains cs x → Contains cs y → rank cs x ≡ rank cs y → x.checkpoint ≡ y.checkpoint
  one_checkpoint x y first second same = elim (total x y) [
    | inl is ↦ is
    | inr (inl before) ↦ let less = rank_rises x y first before in absurd (omega (arith, less, same))
    | inr (inr before) ↦ let less = rank_rises y x second before in absurd (omega (arith, less, same))
  ]

  is_last : (m : ℕ) → (m + 1 == n) ≡ true → m + 1 ≡ n
  is_last m h = eqb-true (m + 1) n h

  -- so the n-th is the same
  pub last_stays : (creation : ℕ) → option_map_or (λ (x : Backup). x.checkpoint) (nth_newest n ds) creation ≡ option_map_or (λ (x : Backup). x.checkpoint) (nth_newest n cs) creation
  last_stays creation =
      let p : Backup → Bool = λ x. rank cs x + 1 == n in
      let q : Backup → Bool = λ x. rank ds x + 1 == n in
      elim (find_cases p cs) [
        | inl none ↦ elim (find_cases q ds) [
          | inl also ↦ ap (λ (o : Option Backup). option_map_or (λ (x : Backup). x.checkpoint) o creation) also ∙ sym (ap (λ (o : Option Backup). option_map_or (λ (x : Backup). x.checkpoint) o creation) none)
          | inr found ↦
              let y = found.item in
              let last = is_last (rank ds y) found.passes in
              let same = same_rank y (first_again y (omega (arith, last))) in
              absurd (find_none p cs y none (had y found.held) (eq-eqb (rank cs y + 1) n (omega (arith, same, last))))
        ]
        | inr found ↦
            let x = found.item in
            let last = is_last (rank cs x) found.passes in
            let same = same_rank x (omega (arith, last)) in
            elim (find_cases q ds) [
              | inl none ↦ absurd (find_none q ds x none (low x found.held (omega (arith, last))) (eq-eqb (rank ds x + 1) n (omega (arith, same, last))))
              | inr other ↦
                  let y = other.item in
                  let at = is_last (rank ds y) other.passes in
                  let also = same_rank y (first_again y (omega (arith, at))) in
                  ap (λ (o : Option Backup). option_map_or (λ (z : Backup). z.checkpoint) o creation) other.is
                  ∙ one_checkpoint y x (had y other.held) found.held (omega (arith, also, at, last))
                  ∙ sym (ap (λ (o : Option Backup). option_map_or (λ (z : Backup). z.checkpoint) o creation) found.is)
            ]
      ]

-- the same of a datafile on the current path
module _ (r : Retention) (left : List Backup) (f : ℕ) (are : AreRemaining r left) (path : IsOnPath r f) where
  had_candidate : (z : Backup) → Contains (candidates (with_copies r left) f) z → Contains (candidates r f) z
  had_candidate z held =
      let p : Backup → Bool = is_candidate r.world.tree r.current r.policy r.start f in
      let from = filter_from p left z held in
      filter_to p r.copies z (are.had z from.0) from.1

  first_stays : (z : Backup) → Contains (candidates r f) z → rank (candidates r f) z < wanted r.policy → Contains (candidates (with_copies r left) f) z
  first_stays z held first =
      let p : Backup → Bool = is_candidate r.world.tree r.current r.policy r.start f in
      let from = filter_from p r.copies z held in
      elim (are.stays z from.0) [
        | inl stay ↦ filter_to p left z stay from.1
        | inr needless ↦
            let file = (candidate_parts r f z from.1).file in
            let named : IsChosen r f z.id = map_to (λ (x : Backup). x.id) (chosen r f) z (filter_to (λ x. nat_lt (rank (candidates r f) x) (wanted r.policy)) (candidates r f) z held (lt-ltb (rank (candidates r f) z) (wanted r.policy) first)) in
            absurd (needless.not_chosen (subst (IsOnPath r) (sym file) path) (subst (λ k. IsChosen r k z.id) (sym file) named))
      ]

  rise : IsRising (candidates r f)
  rise = rising_from (candidates r f) (candidates_ascend r.world.tree r.current r.policy r.start f r.copies are.ascend)

  rise_left : IsRising (candidates (with_copies r left) f)
  rise_left = rising_from (candidates (with_copies r left) f) (candidates_ascend r.world.tree r.current r.policy r.start f left are.ascend_left)

  pub floor_stays : floor (with_copies r left) f ≡ floor r f
  floor_stays = last_stays (candidates r f) (candidates (with_copies r left) f) (wanted r.policy) rise rise_left had_candidate first_stays (creation_of r.world f)

  pub chosen_stays : (id : ℕ) → IsChosen r f id → IsChosen (with_copies r left) f id
  chosen_stays id held =
      let s = map_from (λ (x : Backup). x.id) (chosen r f) id held in
      let p : Backup → Bool = λ x. nat_lt (rank (candidates r f) x) (wanted r.policy) in
      let q : Backup → Bool = λ x. nat_lt (rank (candidates (with_copies r left) f) x) (wanted r.policy) in
      let from = filter_from p (candidates r f) s.item s.held in
      let first = ltb-true (rank (candidates r f) s.item) (wanted r.policy) from.1 in
      let same = same_rank (candidates r f) (candidates (with_copies r left) f) (wanted r.policy) rise rise_left had_candidate first_stays s.item first in
      subst (Contains (map (λ (x : Backup). x.id) (chosen (with_copies r left) f))) s.is
      (map_to (λ (x : Backup). x.id) (chosen (with_copies r left) f) s.item (filter_to q (candidates (with_copies r left) f) s.item (first_stays s.item from.0 first) (lt-ltb (rank (candidates (with_copies r left) f) s.item) (wanted r.policy) (omega (arith, same, first)))))

module _ (r : Retention) (left : List Backup) (are : AreRemaining r left) where
  same_path : (f : ℕ) → IsOnPath r f → IsOnPath (with_copies r left) f
  same_path f path = record { datafile = path.datafile; is = path.is; exists = path.exists }

  same_clip : (inc high n : ℕ) → ClipsTo (with_copies r left) inc high n → ClipsTo r inc high n
  same_clip inc high n clips = record { clip = clips.clip; is = clips.is; most = clips.most }

  -- what is needless by what is left was needless
  pub backup_again : (x : Backup) → IsNeedlessBackup (with_copies r left) x → IsNeedlessBackup r x
  backup_again x needless = record {
    low = λ path. subst (ClipsTo r x.inc x.high) (floor_stays r left x.file are path) (same_clip x.inc x.high (floor (with_copies r left) x.file) (needless.low (same_path x.file path)));
    not_chosen = λ path held. needless.not_chosen (same_path x.file path) (chosen_stays r left x.file are path x.id held);
  }

  pub log_again : (inc next : ℕ) → IsNeedlessLog (with_copies r left) inc next → IsNeedlessLog r inc next
  log_again inc next needless f path =
      subst (ClipsTo r inc next) (floor_stays r left f are path) (same_clip inc next (floor (with_copies r left) f) (needless f (same_path f path)))
