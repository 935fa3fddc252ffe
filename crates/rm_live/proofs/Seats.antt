-- A seat is cut in two, two are made one, and the one learns what it was made of.
use Rattle.std.proofs.Common.{take-append-drop, ◌≡◌, ◌≢◌, ℕ, ◌+◌, ◌<◌, ◌≤◌, Bool, true, false, List, [], ◌∷◌, ◌++◌, length, set, nat_lt, if◌then◌else◌, take, drop, refl, sym, ap, ◌∙◌, subst, arith, length-append, length-take, length-drop, inl, inr, ⊎_elim, ltb-true, ltb-false}
use mathlib.Core.Option.{Option as Slot, some, none}
use lib.ListN.{get_elem?}
use lib.Seq.{set-get_or}
use Rattle.atomic_table.{specs.Table.{step, keeps, Allows, Splits, Joins}, proofs.Lists.{at_set, at_snoc, at_longer}}
use Rattle.rm_live.specs.{Parts.{Parts}, History.{after, IsLegal, times, Foreign, Past}}
use Rattle.rm_live.specs.Ruled.{total, one_if, waiting, holding, Knows, SlotIs, Below, Ruled, half, keeps_half, gives_half, longer, merged, spent_view, met, Met}
use Rattle.rm_live.specs.declared.{database.Database.{Database}, history.Event.{Event}, rule.View.{View}}
use Rattle.rm_live.proofs.Totals.{total_set, total_same, total_snoc, times_append, times_split, foreign_less, foreign_both, past_none, past_within}
use Rattle.rm_live.proofs.Steps.{St, off, each_set, shares_of, slot_same, apart_set}

slot_snoc : (o : Parts) (log : List Event) (homes : List (Slot Database)) (views : List View) (w : View) → SlotIs o log homes views → SlotIs o log homes (views ++ w ∷ [])
slot_snoc o log homes views w (inl h) = inl h
slot_snoc o log homes views w (inr h) = inr (h.0, (h.1.0, h.1.1, at_longer views (w ∷ []) h.1.0 h.1.1 h.1.2, h.1.3))

pub splits : (id : ℕ) (v : View) → v.waits ≡ false → v.turn ≡ false → 2 ≤ length v.numbers → Splits Ruled id v (keeps_half v) (gives_half v)
splits id v idle still two s r at =
    let w : View = keeps_half v in
    let u : View = gives_half v in
    let views : List View = set s.views id w in
    let mine = r.each id v at in
    let some_number : 0 < length v.numbers = omega arith in
    let opened = mine.opening_is some_number in
    let same_passes = mine.passes_is some_number in
    let k : ℕ = half v.numbers in
    let calm : one_if v.waits ≡ 0 = ap one_if idle in
    record {
      opening = r.opening;
      passes = r.passes;
      log = r.log;
      drawn = r.drawn;
      words = r.words;
      small = r.small;
      legal = r.legal;
      sound = r.sound;
      below = r.below;
      tickets = r.tickets ∙ ap (λ (x : ℕ). length r.log + x) (sym (let a = total_same waiting s.views id v w at refl in let b = total_snoc waiting views u in omega arith));
      shares = λ n. let a = total_set (λ (x : View). times n x.numbers) s.views id v w at in let b = total_snoc (λ (x : View). times n x.numbers) views u in let c = times_split n k v.numbers in let all = r.shares n in omega arith;
      count = let a = total_set holding s.views id v w at in let b = total_snoc holding views u in let c = length-take k v.numbers in let d = length-drop k v.numbers in let all = r.count in count_is (length v.numbers) k (length (take k v.numbers)) (length (drop k v.numbers)) (total holding s.views) (total holding views) (total holding (views ++ u ∷ [])) r.passes (omega arith) (sums v.numbers k) a b all;
      each = λ j x there. ⊎_elim
          (each_set (Knows r.opening r.passes r.log r.drawn) s.views id w
          (record {
            opening_is = λ _. opened;
            passes_is = λ _. same_passes;
            past = (mine.past.0, mine.past.1, foreign_less (take k v.numbers) v.numbers mine.past.0 (λ n. let c = times_split n k v.numbers in omega arith) mine.past.2);
            one = past_none r.log;
            other = past_none r.log;
            one_le = omega arith;
            other_le = omega arith;
            one_in = λ n. omega arith;
            other_in = λ n. omega arith;
            ticketed = λ waits. absurd (off (sym idle ∙ waits));
            in_turn = λ turn. absurd (off (sym still ∙ turn));
          })
          (λ i y other here. r.each i y here) j x)
          (λ (is : u ≡ x). subst (Knows r.opening r.passes r.log r.drawn) is record {
            opening_is = λ _. opened;
            passes_is = λ _. same_passes;
            past = (mine.past.0, mine.past.1, foreign_less (drop k v.numbers) v.numbers mine.past.0 (λ n. let c = times_split n k v.numbers in omega arith) mine.past.2);
            one = past_none r.log;
            other = past_none r.log;
            one_le = omega arith;
            other_le = omega arith;
            one_in = λ n. omega arith;
            other_in = λ n. omega arith;
            ticketed = λ waits. absurd (off waits);
            in_turn = λ turn. absurd (off turn);
          })
          (at_snoc views u x j there);
      apart = λ i j x y here there xw yw same. ⊎_elim
          (λ here'. ⊎_elim
          (λ there'. apart_set s.views id w r.apart (λ a b _ _ _ ww _. off (sym idle ∙ ww)) i j x y here' there' xw yw same)
          (λ (is : u ≡ y). absurd (off (ap (λ (z : View). z.waits) is ∙ yw)))
          (at_snoc views u y j there))
          (λ (is : u ≡ x). absurd (off (ap (λ (z : View). z.waits) is ∙ xw)))
          (at_snoc views u x i here);
      slot = slot_snoc r.opening r.log s.homes views u (slot_same r.opening r.log s id v w at still r.slot);
    }
  where
    sums : (ns : List ℕ) (k : ℕ) → length (take k ns) + length (drop k ns) ≡ length ns
    sums ns k = sym (length-append (take k ns) (drop k ns)) ∙ ap length (take-append-drop k ns)

    count_is : (n k a b t t' t'' p : ℕ) → 0 < n → a + b ≡ n → t' + n ≡ t + a → t'' ≡ t' + b → t ≡ p → t'' ≡ p
    count_is n k a b t t' t'' p pos ab e f g = omega arith

-- what the longer of two lists is past
past_longer : (ns ms : List ℕ) (a b log : List Event) → Past ns a log → Past ms b log
    → Past (ns ++ ms) (longer a b) log × (length a ≤ length (longer a b)) × (length b ≤ length (longer a b))
past_longer ns ms a b log p q = go (nat_lt (length a) (length b)) refl
  where
    go : (less : Bool) → nat_lt (length a) (length b) ≡ less → Past (ns ++ ms) (if less then b else a) log × (length a ≤ length (if less then b else a)) × (length b ≤ length (if less then b else a))
    go true is =
        let lt = ltb-true (length a) (length b) is in
        let on = (past_within ns ms a b log p q (omega arith)).1 in
        ((q.0, q.1, foreign_both ns ms q.0 (past_same ns b log on q) q.2), omega arith, omega arith)
      where
        past_same : (ns : List ℕ) (b log : List Event) → Past ns b log → (q : Past ms b log) → Foreign ns q.0
        past_same ns b log on q = subst (Foreign ns) (cancel b on.0 q.0 (sym on.1 ∙ q.1)) on.2
          where
            cancel : (b x y : List Event) → b ++ x ≡ b ++ y → x ≡ y
            cancel [] x y e = e
            cancel (z ∷ b) x y e = cancel b x y (cc e)
    go false is =
        let le = ltb-false (length a) (length b) is in
        let on = (past_within ms ns b a log q p (omega arith)).1 in
        ((p.0, p.1, foreign_both ns ms p.0 p.2 (past_same b on p)), omega arith, omega arith)
      where
        cancel : (b x y : List Event) → b ++ x ≡ b ++ y → x ≡ y
        cancel [] x y e = e
        cancel (z ∷ b) x y e = cancel b x y (cc e)

        past_same : (b : List Event) → Past ms a log → (p : Past ns a log) → Foreign ms p.0
        past_same b on p = subst (Foreign ms) (cancel a on.0 p.0 (sym on.1 ∙ p.1)) on.2

pub joins : (id : ℕ) (v : View) (other : ℕ) (w : View) → v.waits ≡ false → v.turn ≡ false → 0 < length v.numbers → w.waits ≡ false → w.turn ≡ false
    → Joins Ruled id v other w (merged v w) spent_view
joins id v other w idle still some_number idle' still' s r at apart there =
    let b : View = merged v w in
    let views : List View = set s.views id b in
    let s' : St = record { words = s.words; homes = s.homes; views = views } in
    let mine = r.each id v at in
    let there' : get_elem? s.views other ≡ some w = ⊎_elim (λ (t : (other ≡ id) × (b ≡ w)). absurd (apart t.0)) (λ (t : (other ≢ id) × (get_elem? s.views other ≡ some w)). t.1) (at_set s.views id other b w there) in
    let theirs = r.each other w there' in
    let opened = mine.opening_is some_number in
    let same_passes = mine.passes_is some_number in
    let both = past_longer v.numbers w.numbers v.seen w.seen r.log mine.past theirs.past in
    let calm : one_if v.waits ≡ 0 = ap one_if idle in
    let calm' : one_if w.waits ≡ 0 = ap one_if idle' in
    record {
      opening = r.opening;
      passes = r.passes;
      log = r.log;
      drawn = r.drawn;
      words = r.words;
      small = r.small;
      legal = r.legal;
      sound = r.sound;
      below = r.below;
      tickets = r.tickets ∙ ap (λ (x : ℕ). length r.log + x) (sym (let c = total_same waiting s.views id v b at refl in let d = total_set waiting views other w spent_view there in omega arith));
      shares = λ n. let c = total_set (λ (x : View). times n x.numbers) s.views id v b at in let d = total_set (λ (x : View). times n x.numbers) views other w spent_view there in let e = times_append n v.numbers w.numbers in let all = r.shares n in omega arith;
      count = let c = total_set holding s.views id v b at in let d = total_set holding views other w spent_view there in let e = length-append v.numbers w.numbers in let all = r.count in omega arith;
      each = each_set (Knows r.opening r.passes r.log r.drawn) views other spent_view
          (record {
            opening_is = λ h. absurd (omega arith);
            passes_is = λ h. absurd (omega arith);
            past = past_none r.log;
            one = past_none r.log;
            other = past_none r.log;
            one_le = omega arith;
            other_le = omega arith;
            one_in = λ n. omega arith;
            other_in = λ n. omega arith;
            ticketed = λ waits. absurd (off waits);
            in_turn = λ turn. absurd (off turn);
          })
          (λ j u _ here. each_set (Knows r.opening r.passes r.log r.drawn) s.views id b
          (record {
            opening_is = λ _. opened;
            passes_is = λ _. same_passes;
            past = both.0;
            one = mine.past;
            other = theirs.past;
            one_le = both.1;
            other_le = both.2;
            one_in = λ n. let e = times_append n v.numbers w.numbers in omega arith;
            other_in = λ n. let e = times_append n v.numbers w.numbers in omega arith;
            ticketed = λ waits. absurd (off (sym idle ∙ waits));
            in_turn = λ turn. absurd (off (sym still ∙ turn));
          })
          (λ i y _ h. r.each i y h) j u here);
      apart = apart_set views other spent_view (apart_set s.views id b r.apart (λ a c _ _ _ ww _. off (sym idle ∙ ww))) (λ a c _ _ _ ww _. off ww);
      slot = slot_same r.opening r.log s' other w spent_view there still' (slot_same r.opening r.log s id v b at still r.slot);
    }

legal_front : (o : Parts) (xs ys : List Event) → IsLegal o (xs ++ ys) → IsLegal o xs
legal_front o [] ys h = tt
legal_front o (x ∷ xs) ys h = (h.0, legal_front (after o x.call x.answer) xs ys h.1)

below_front : (n : ℕ) (xs ys : List Event) → Below n (xs ++ ys) → Below n xs
below_front n [] ys h = tt
below_front n (x ∷ xs) ys h = (h.0, below_front n xs ys h.1)

pub meets : (slots id : ℕ) (v : View) (c : List (ℕ × Database)) → v.waits ≡ false → v.turn ≡ false → 0 < length v.numbers → Allows Ruled slots id (v, c) 1 (λ n. n) (Met (step slots 1 0 0 none) (v, c))
meets slots id v c idle still some_number s r deep at fits =
    let w : View = met v in
    let mine = r.each id v at in
    let opened = mine.opening_is some_number in (
      w,
      keeps,
      tt,
      record {
        opening = r.opening;
        passes = r.passes;
        log = r.log;
        drawn = r.drawn;
        words = set-get_or s.words 1 0 ∙ r.words;
        small = r.small;
        legal = r.legal;
        sound = r.sound;
        below = r.below;
        tickets = r.tickets ∙ ap (λ (x : ℕ). length r.log + x) (sym (total_same waiting s.views id v w at refl));
        shares = λ n. total_same (λ (u : View). times n u.numbers) s.views id v w at refl ∙ r.shares n;
        count = total_same holding s.views id v w at refl ∙ r.count;
        each = each_set (Knows r.opening r.passes r.log r.drawn) s.views id w
            (record {
              opening_is = mine.opening_is;
              passes_is = mine.passes_is;
              past = mine.past;
              one = past_none r.log;
              other = past_none r.log;
              one_le = omega arith;
              other_le = omega arith;
              one_in = λ n. omega arith;
              other_in = λ n. omega arith;
              ticketed = λ waits. absurd (off (sym idle ∙ waits));
              in_turn = λ turn. absurd (off (sym still ∙ turn));
            })
            (λ j u _ here. r.each j u here);
        apart = apart_set s.views id w r.apart (λ a b _ _ _ ww _. off (sym idle ∙ ww));
        slot = slot_same r.opening r.log s id v w at still r.slot;
      },
      record {
        is = refl;
        legal = subst (λ (o : Parts). IsLegal o v.seen) (sym opened) (legal_front r.opening v.seen mine.past.0 (subst (IsLegal r.opening) mine.past.1 r.legal));
        below = subst (λ (n : ℕ). Below n v.seen) (sym (mine.passes_is some_number)) (below_front r.passes v.seen mine.past.0 (subst (Below r.passes) mine.past.1 r.below));
        shares = shares_of s r id v at some_number;
        one = (past_within v.one.numbers v.numbers v.one.seen v.seen r.log mine.one mine.past mine.one_le).0;
        other = (past_within v.other.numbers v.numbers v.other.seen v.seen r.log mine.other mine.past mine.other_le).0;
      },
    )

pub more : (xs ys : List ℕ) → 0 < length xs → 0 < length (xs ++ ys)
more xs ys h = let e = length-append xs ys in omega arith
