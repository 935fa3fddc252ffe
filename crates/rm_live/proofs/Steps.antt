-- Each step keeps the rule.
use Rattle.std.proofs.Common.{◌≡◌, ◌≢◌, ℕ, zero, suc, ◌+◌, ◌%◌, ◌<◌, ◌≤◌, Bool, true, false, true≢false, List, [], ◌∷◌, ◌++◌, length, set, slice_index, nat_lt, refl, sym, ap, ◌∙◌, subst, arith, length-append, inl, inr, ⊎_elim, eq-eqb}
use mathlib.Core.Logic.{dite}
use mathlib.Core.Option.{Option as Slot, some, none, some-ne-none, some-injective}
use native.Mathlib.Decide.{ℕ_discrete}
use lib.ListN.{get_elem?}
use Rattle.atomic_table.specs.Table.{State, step, keeps, takes, gives, stepped, Allows, Act, Step, Valid, carried_after, put_back, rest}
use Rattle.atomic_table.proofs.Lists.{at_set, set_again, one_turn, set_else}
use Rattle.std.proofs.Math.Nat.{mod-add-mod}
use lib.Seq.{set-get_or}
use Rattle.rm_live.specs.{Parts.{IsSound, Parts, parts_of}, History.{IsRight, after, IsLegal, fold_of, times, Past}}
use Rattle.rm_live.specs.Passes.{HasTurn, IsTurn, first_of, event_of}
use Rattle.rm_live.specs.Ruled.{big, start, Looked, total, one_if, waiting, holding, once_below, Knows, SlotIs, Below, AreShares, Ruled, Sat, drew, took, ended, Drew, Ended}
use Rattle.rm_live.specs.declared.{database.Database.{Database}, history.{Answer.{Answer}, Event.{Event}, Call.{Call}}, rule.View.{View}}
use Rattle.rm_live.proofs.Sound.{after-sound}
use Rattle.rm_live.proofs.Totals.{total_set, total_same, total_one, total_two, total_le, legal_snoc, fold_snoc, below_snoc, past_snoc, past_none, past_self, past_length}

abbrev pub St : Type 0
St = State Database View

pub off : false ≡ true → ⊥
off e = true≢false (sym e)

-- at most as many wait as there are numbers
few_wait : (s : St) (r : Ruled s) → total waiting s.views ≤ r.passes
few_wait s r = let h = total_le waiting holding s.views (λ i v at. one v.waits (length v.numbers) (λ w. ((r.each i v at).ticketed w).2)) in omega (arith, r.count)
  where
    one : (b : Bool) (n : ℕ) → (b ≡ true → 0 < n) → one_if b ≤ n
    one true n h = let k = h refl in omega arith
    one false n h = omega arith

-- what is known of each view, after a change of one
pub each_set : (K : View → Type 0) (views : List View) (id : ℕ) (w : View) → K w → ((j : ℕ) (u : View) → j ≢ id → get_elem? views j ≡ some u → K u) → (j : ℕ) (u : View) → get_elem? (set views id w) j ≡ some u → K u
each_set K views id w mine others j u e =
    ⊎_elim
    (λ (x : (j ≡ id) × (w ≡ u)). subst K x.1 mine)
    (λ (x : (j ≢ id) × (get_elem? views j ≡ some u)). others j u x.0 x.1)
    (at_set views id j w u e)

-- a seat that is not in turn changes its view
pub slot_same : (o : Parts) (log : List Event) (s : St) (id : ℕ) (v w : View) → get_elem? s.views id ≡ some v → v.turn ≡ false → SlotIs o log s.homes s.views → SlotIs o log s.homes (set s.views id w)
slot_same o log s id v w at idle (inl h) = inl h
slot_same o log s id v w at idle (inr h) =
    let i : ℕ = h.1.0 in
    let u : View = h.1.1 in
    inr (h.0, (i, u, set_else s.views id i w (λ e. off (sym idle ∙ ap (λ (x : View). x.turn) (some-injective v u (sym at ∙ ap (λ (k : ℕ). get_elem? s.views k) (sym e) ∙ h.1.2)) ∙ h.1.3)) ∙ h.1.2, h.1.3))

-- two views with one ticket are one, where the ticket of a changed view is new, or it has none
pub apart_set : (views : List View) (id : ℕ) (w : View)
    → ((i j : ℕ) (v u : View) → get_elem? views i ≡ some v → get_elem? views j ≡ some u → v.waits ≡ true → u.waits ≡ true → v.ticket ≡ u.ticket → i ≡ j)
    → ((j : ℕ) (u : View) → j ≢ id → get_elem? views j ≡ some u → u.waits ≡ true → w.waits ≡ true → u.ticket ≡ w.ticket → ⊥)
    → (i j : ℕ) (v u : View) → get_elem? (set views id w) i ≡ some v → get_elem? (set views id w) j ≡ some u → v.waits ≡ true → u.waits ≡ true → v.ticket ≡ u.ticket → i ≡ j
apart_set views id w old new i j v u at at' vw uw same =
    ⊎_elim
    (λ (x : (i ≡ id) × (w ≡ v)). ⊎_elim
    (λ (y : (j ≡ id) × (w ≡ u)). x.0 ∙ sym y.0)
    (λ (y : (j ≢ id) × (get_elem? views j ≡ some u)). absurd (new j u y.0 y.1 uw (ap (λ (z : View). z.waits) x.1 ∙ vw) (sym same ∙ ap (λ (z : View). z.ticket) (sym x.1))))
    (at_set views id j w u at'))
    (λ (x : (i ≢ id) × (get_elem? views i ≡ some v)). ⊎_elim
    (λ (y : (j ≡ id) × (w ≡ u)). absurd (new i v x.0 x.1 vw (ap (λ (z : View). z.waits) y.1 ∙ uw) (same ∙ ap (λ (z : View). z.ticket) (sym y.1))))
    (λ (y : (j ≢ id) × (get_elem? views j ≡ some u)). old i j v u x.1 y.1 vw uw same)
    (at_set views id j w u at'))
    (at_set views id i w v at)

pub draws : (slots id : ℕ) (v : View) (c : List (ℕ × Database)) → v.waits ≡ false → v.turn ≡ false → 0 < length v.numbers
    → Allows Ruled slots id (v, c) 0 (λ n. (n + 1) % big) (Drew (step slots 0 1 0 none) (v, c))
draws slots id v c idle still some_number s r deep at fits =
    let t : ℕ = r.drawn in
    let w : View = drew v t in
    let mine = r.each id v at in
    let k : ℕ = slice_index s.words 0 in
    let k_is : k ≡ t % big = ap (λ (ws : List ℕ). slice_index ws 0) r.words in
    let grown = total_set waiting s.views id v w at in
    let none_before : waiting v ≡ 0 = ap one_if idle in (
      w,
      keeps,
      tt,
      record {
        opening = r.opening;
        passes = r.passes;
        log = r.log;
        drawn = t + 1;
        words = ap (λ (ws : List ℕ). set ws 0 ((k + 1) % big)) r.words ∙ ap (λ (x : ℕ). x ∷ length r.log % big ∷ []) (ap (λ (x : ℕ). (x + 1) % big) k_is ∙ mod-add-mod t big 1);
        small = r.small;
        legal = r.legal;
        sound = r.sound;
        below = r.below;
        tickets = omega (arith, r.tickets, grown, none_before);
        shares = λ n. total_same (λ (u : View). times n u.numbers) s.views id v w at refl ∙ r.shares n;
        count = total_same holding s.views id v w at refl ∙ r.count;
        each = each_set (Knows r.opening r.passes r.log (t + 1)) s.views id w
            (record {
              opening_is = mine.opening_is;
              passes_is = mine.passes_is;
              past = mine.past;
              one = mine.one;
              other = mine.other;
              one_le = mine.one_le;
              other_le = mine.other_le;
              one_in = mine.one_in;
              other_in = mine.other_in;
              ticketed = λ _. (omega (arith, r.tickets), omega arith, some_number);
              in_turn = λ turn. absurd (off (sym still ∙ turn));
            })
            (λ j u other there. let theirs = r.each j u there in record {
              opening_is = theirs.opening_is;
              passes_is = theirs.passes_is;
              past = theirs.past;
              one = theirs.one;
              other = theirs.other;
              one_le = theirs.one_le;
              other_le = theirs.other_le;
              one_in = theirs.one_in;
              other_in = theirs.other_in;
              ticketed = λ waits. let old = theirs.ticketed waits in (old.0, (let lt = old.1 in omega arith), old.2);
              in_turn = theirs.in_turn;
            });
        apart = apart_set s.views id w r.apart (λ j u other there waits _ same. let old = ((r.each j u there).ticketed waits).1 in omega arith);
        slot = slot_same r.opening r.log s id v w at still r.slot;
      },
      (t, k_is, refl),
    )

-- a view's numbers are different, and each is below the number of passes
pub shares_of : (s : St) (r : Ruled s) (id : ℕ) (v : View) → get_elem? s.views id ≡ some v → 0 < length v.numbers → AreShares v.numbers v.passes
shares_of s r id v at some_number n =
    let one = total_one (λ (x : View). times n x.numbers) s.views id v at in
    let all = r.shares n in
    let same = ap (once_below n) ((r.each id v at).passes_is some_number) in
    omega arith

looks_at : (s : St) (r : Ruled s) (slots id : ℕ) (v : View) (c : List (ℕ × Database)) → get_elem? s.views id ≡ some v → v.waits ≡ true → v.turn ≡ false → v.ticket ≡ length r.log
    → SlotIs r.opening r.log s.homes s.views → (k : ℕ) → k ≡ v.ticket % big → slice_index s.words 1 ≡ k
    → (w : View) × (a : Act Database) × Valid s.homes c a × Ruled (stepped s 1 k id c w a) × Looked (step slots 1 0 0 none) (v, c) k (w, carried_after c a)
looks_at s r slots id v c at waits still mine_next (inr h) k k_is found =
    let i : ℕ = h.1.0 in
    let u : View = h.1.1 in
    let theirs = (r.each i u h.1.2).in_turn h.1.3 in
    let same = r.apart i id u v h.1.2 at theirs.0 waits (theirs.1 ∙ sym mine_next) in
    absurd (off (sym still ∙ ap (λ (x : View). x.turn) (some-injective v u (sym at ∙ ap (λ (k : ℕ). get_elem? s.views k) (sym same) ∙ h.1.2)) ∙ h.1.3))
looks_at s r slots id v c at waits still mine_next (inl h) k k_is found =
    let d : Database = h.0 in
    let w : View = took v r.log in
    let mine = r.each id v at in
    let ticketed = mine.ticketed waits in
    let long = past_length v.numbers v.seen r.log mine.past in (
      w,
      takes 0 d,
      ap (λ (hs : List (Slot Database)). get_elem? hs 0) h.1,
      record {
        opening = r.opening;
        passes = r.passes;
        log = r.log;
        drawn = r.drawn;
        words = ap (λ (x : ℕ). set s.words 1 x) (sym found) ∙ set-get_or s.words 1 0 ∙ r.words;
        small = r.small;
        legal = r.legal;
        sound = r.sound;
        below = r.below;
        tickets = r.tickets ∙ ap (λ (x : ℕ). length r.log + x) (sym (total_same waiting s.views id v w at refl));
        shares = λ n. total_same (λ (u : View). times n u.numbers) s.views id v w at refl ∙ r.shares n;
        count = total_same holding s.views id v w at refl ∙ r.count;
        each = each_set (Knows r.opening r.passes r.log r.drawn) s.views id w
            (record {
              opening_is = mine.opening_is;
              passes_is = mine.passes_is;
              past = past_self v.numbers r.log;
              one = mine.one;
              other = mine.other;
              one_le = let le = mine.one_le in omega arith;
              other_le = let le = mine.other_le in omega arith;
              one_in = mine.one_in;
              other_in = mine.other_in;
              ticketed = λ _. ticketed;
              in_turn = λ _. (waits, mine_next, refl);
            })
            (λ j u other there. r.each j u there);
        apart = apart_set s.views id w r.apart (λ j u other there uw _ same. other (r.apart j id u v there at uw waits same));
        slot = inr (ap (λ (hs : List (Slot Database)). set hs 0 none) h.1, (id, w, set_there s.views id v w at, refl));
      },
      record {
        hit = λ _. record {
          seen = r.log;
          database = d;
          is = refl;
          legal = subst (λ (o : Parts). IsLegal o r.log) (sym (mine.opening_is ticketed.2)) r.legal;
          fold = h.2 ∙ ap (λ (o : Parts). fold_of o r.log) (sym (mine.opening_is ticketed.2));
          past = mine.past;
          below = subst (λ (n : ℕ). Below n r.log) (sym (mine.passes_is ticketed.2)) r.below;
          shares = shares_of s r id v at ticketed.2;
          sound = subst IsSound (sym h.2) r.sound;
        };
        miss = λ ne. absurd (ne k_is);
      },
    )
  where
    set_there : (views : List View) (id : ℕ) (v w : View) → get_elem? views id ≡ some v → get_elem? (set views id w) id ≡ some w
    set_there [] id v w at = absurd (some-ne-none v (sym at))
    set_there (x ∷ xs) zero v w at = refl
    set_there (x ∷ xs) (suc id) v w at = set_there xs id v w at

pub looks : (slots id : ℕ) (v : View) (c : List (ℕ × Database)) → v.waits ≡ true → v.turn ≡ false
    → Allows Ruled slots id (v, c) 1 (λ n. n) (Looked (step slots 1 0 0 none) (v, c))
looks slots id v c waits still s r deep at fits =
    let k : ℕ = slice_index s.words 1 in
    let k_is : k ≡ length r.log % big = ap (λ (ws : List ℕ). slice_index ws 1) r.words in
    let mine = r.each id v at in
    let ticketed = mine.ticketed waits in
    let few = few_wait s r in
    let few' = r.small in
    let near = ticketed.1 in
    let low = ticketed.0 in
    dite (ℕ_discrete k (v.ticket % big))
    (λ hit. looks_at s r slots id v c at waits still (sym (one_turn (length r.log) v.ticket big low (omega (arith, r.tickets)) (sym k_is ∙ hit))) r.slot k hit refl)
    (λ miss. (
      v,
      keeps,
      tt,
      subst (λ (ws : List ℕ). Ruled record { words = ws; homes = s.homes; views = set s.views id v }) (sym (set-get_or s.words 1 0)) (subst (λ (vs : List View). Ruled record { words = s.words; homes = s.homes; views = vs }) (sym (set_again s.views id v at)) r),
      record { hit = λ hit. absurd (miss hit); miss = λ _. refl },
    ))

-- no other view has a number that this one has
not_theirs : (s : St) (r : Ruled s) (id j : ℕ) (v u : View) (n : ℕ) → j ≢ id → get_elem? s.views id ≡ some v → get_elem? s.views j ≡ some u → 0 < times n v.numbers → times n u.numbers ≡ 0
not_theirs s r id j v u n other at there has =
    let both = total_two (λ (x : View). times n x.numbers) s.views j id u v other there at in
    let all = r.shares n in
    let one = once_le n r.passes in
    omega arith
  where
    le_one : (b : Bool) → one_if b ≤ 1
    le_one true = omega arith
    le_one false = omega arith

    once_le : (n p : ℕ) → once_below n p ≤ 1
    once_le n p = le_one (nat_lt n p)

-- a number that some view has is below the number of passes
is_below : (s : St) (r : Ruled s) (id : ℕ) (v : View) (n : ℕ) → get_elem? s.views id ≡ some v → 0 < times n v.numbers → n < r.passes
is_below s r id v n at has =
    let one = total_one (λ (x : View). times n x.numbers) s.views id v at in
    let all = r.shares n in
    pos n r.passes (omega arith)
  where
    from : (b : Bool) → 0 < one_if b → b ≡ true
    from true h = refl
    from false h = absurd (omega arith)

    pos : (n p : ℕ) → 0 < once_below n p → n < p
    pos n p h = Rattle.std.proofs.Common.ltb-true n p (from (nat_lt n p) h)

pub ends : (slots id : ℕ) (v : View) (c : List (ℕ × Database)) (y : Database) (e : Event) → v.turn ≡ true → c ≡ (0, y) ∷ [] → 0 < times e.by v.numbers
    → IsRight (fold_of (start v.opening) v.seen) e.call e.answer → parts_of y ≡ after (fold_of (start v.opening) v.seen) e.call e.answer
    → Allows Ruled slots id (v, c) 1 (λ n. (n + 1) % big) (Ended e (step slots 1 1 0 none) (v, c))
ends slots id v c y e turn carried has right state s r deep at fits =
    let w : View = ended v e in
    let mine = r.each id v at in
    let now = mine.in_turn turn in
    let k : ℕ = slice_index s.words 1 in
    let k_is : k ≡ length r.log % big = ap (λ (ws : List ℕ). slice_index ws 1) r.words in
    let log' : List Event = r.log ++ e ∷ [] in
    let longer : length log' ≡ length r.log + 1 = length-append r.log (e ∷ []) in
    let grown = total_set waiting s.views id v w at in
    let one_before : waiting v ≡ 1 = ap one_if now.0 in
    let opened : start v.opening ≡ r.opening = mine.opening_is ((mine.ticketed now.0).2) in
    let same : fold_of (start v.opening) v.seen ≡ fold_of r.opening r.log = λ i. fold_of (opened i) (now.2 i) in (
      w,
      gives,
      tt,
      record {
        opening = r.opening;
        passes = r.passes;
        log = log';
        drawn = r.drawn;
        words = ap (λ (ws : List ℕ). set ws 1 ((k + 1) % big)) r.words ∙ ap (λ (x : ℕ). r.drawn % big ∷ x ∷ []) (ap (λ (x : ℕ). (x + 1) % big) k_is ∙ mod-add-mod (length r.log) big 1 ∙ ap (λ (x : ℕ). x % big) (sym longer));
        small = r.small;
        legal = legal_snoc r.opening r.log e r.legal (subst (λ (o : Parts). IsRight o e.call e.answer) same right);
        sound = subst IsSound (sym (fold_snoc r.opening r.log e)) (after-sound (fold_of r.opening r.log) e.call e.answer r.sound (subst (λ (o : Parts). IsRight o e.call e.answer) same right));
        below = below_snoc r.passes r.log e r.below (is_below s r id v e.by at has);
        tickets = omega (arith, r.tickets, grown, one_before, longer);
        shares = λ n. total_same (λ (u : View). times n u.numbers) s.views id v w at refl ∙ r.shares n;
        count = total_same holding s.views id v w at refl ∙ r.count;
        each = each_set (Knows r.opening r.passes log' r.drawn) s.views id w
            (record {
              opening_is = mine.opening_is;
              passes_is = mine.passes_is;
              past = subst (λ (l : List Event). Past v.numbers (v.seen ++ e ∷ []) (l ++ e ∷ [])) now.2 (past_self v.numbers (v.seen ++ e ∷ []));
              one = past_none log';
              other = past_none log';
              one_le = omega arith;
              other_le = omega arith;
              one_in = λ n. omega arith;
              other_in = λ n. omega arith;
              ticketed = λ waits. absurd (off waits);
              in_turn = λ turn. absurd (off turn);
            })
            (λ j u other there. let theirs = r.each j u there in let free = not_theirs s r id j v u e.by other at there has in record {
              opening_is = theirs.opening_is;
              passes_is = theirs.passes_is;
              past = past_snoc u.numbers u.seen r.log e theirs.past free;
              one = past_snoc u.one.numbers u.one.seen r.log e theirs.one (let le = theirs.one_in e.by in omega arith);
              other = past_snoc u.other.numbers u.other.seen r.log e theirs.other (let le = theirs.other_in e.by in omega arith);
              one_le = theirs.one_le;
              other_le = theirs.other_le;
              one_in = theirs.one_in;
              other_in = theirs.other_in;
              ticketed = λ waits. let old = theirs.ticketed waits in
                  (later (length r.log) (length log') u.ticket longer old.0 (λ is. other (r.apart j id u v there at waits now.0 (is ∙ sym now.1))), old.1, old.2);
              in_turn = λ is. let old = theirs.in_turn is in absurd (other (r.apart j id u v there at old.0 now.0 (old.1 ∙ sym now.1)));
            });
        apart = apart_set s.views id w r.apart (λ j u other there uw ww _. off ww);
        slot = inl (y, homes_are s.homes c y carried r.slot, state ∙ ap (λ (o : Parts). after o e.call e.answer) same ∙ sym (fold_snoc r.opening r.log e));
      },
      (ap (λ (l : List (ℕ × Database)). (w, rest l)) carried, subst (λ (n : ℕ). e.by < n) (sym (mine.passes_is ((mine.ticketed now.0).2))) (is_below s r id v e.by at has)),
    )
  where
    later : (n m t : ℕ) → m ≡ n + 1 → n ≤ t → ¬ (t ≡ n) → m ≤ t
    later n m t is le ne = omega arith

    homes_are : (homes : List (Slot Database)) (c : List (ℕ × Database)) (y : Database) → c ≡ (0, y) ∷ [] → SlotIs r.opening r.log homes s.views → put_back homes c ≡ some y ∷ []
    homes_are homes c y is (inl h) = ap (λ (l : List (ℕ × Database)). put_back homes l) is ∙ ap (λ (hs : List (Slot Database)). set hs 0 (some y)) h.1
    homes_are homes c y is (inr h) = ap (λ (l : List (ℕ × Database)). put_back homes l) is ∙ ap (λ (hs : List (Slot Database)). set hs 0 (some y)) h.0

-- after a look that found the ticket
pub turned : (st : Step Database) (m n p : Sat) (t r : ℕ) → m.1 ≡ [] → n ≡ (drew m.0 t, []) → r ≡ t % big → Looked st n r p → HasTurn m p
turned st m n p t r none_held is found look =
    let got = look.hit (found ∙ ap (λ (x : Sat). x.0.ticket % big) (sym is)) in
    let view = ap (λ (x : Sat). x.0) is in
    let here = got.is in record {
      seen = got.seen;
      database = got.database;
      carries = ap (λ (x : Sat). x.1) here ∙ ap (λ (x : Sat). (0, got.database) ∷ x.1) is;
      turn = ap (λ (x : Sat). x.0.turn) here;
      opening = ap (λ (x : Sat). x.0.opening) here ∙ ap (λ (x : View). x.opening) view;
      passes = ap (λ (x : Sat). x.0.passes) here ∙ ap (λ (x : View). x.passes) view;
      numbers = ap (λ (x : Sat). x.0.numbers) here ∙ ap (λ (x : View). x.numbers) view;
      seen_is = ap (λ (x : Sat). x.0.seen) here;
      legal = subst (λ (x : View). IsLegal (start x.opening) got.seen) view got.legal;
      fold = got.fold ∙ ap (λ (x : View). fold_of (start x.opening) got.seen) view;
      past = subst (λ (x : View). Past x.numbers x.seen got.seen) view got.past;
      below = subst (λ (x : View). Below x.passes got.seen) view got.below;
      shares = subst (λ (x : View). AreShares x.numbers x.passes) view got.shares;
      sound = got.sound;
    }

first_times : (ns : List ℕ) → 0 < length ns → 0 < times (first_of ns) ns
first_times [] h = absurd (omega arith)
first_times (n ∷ ns) h = let e = eq-eqb n n refl in rw e (omega arith)

pub ends_as : (slots id : ℕ) (m : Sat) (call : Call) (answer : Answer) (e : Event) → e ≡ event_of m call answer → IsTurn m call answer
    → Allows Ruled slots id m 1 (λ n. (n + 1) % big) (Ended e (step slots 1 1 0 none) m)
ends_as slots id m call answer e is turn =
    let by_is : first_of m.0.numbers ≡ e.by = ap (λ (x : Event). x.by) (sym is) in
    ends slots id m.0 m.1 turn.database e turn.turn turn.carries
    (subst (λ (n : ℕ). 0 < times n m.0.numbers) by_is (first_times m.0.numbers turn.some))
    (subst (λ (x : Event). IsRight (fold_of (start m.0.opening) m.0.seen) x.call x.answer) (sym is) turn.right)
    (turn.left ∙ ap (λ (x : Event). after (fold_of (start m.0.opening) m.0.seen) x.call x.answer) (sym is))
