-- The bitmaps of a state: what a mark, a switch and a new start make of those of a datafile, and in which states they stay as they should be.
use Rattle.std.specs.Option.{option_and_then, option_map, option_map_or}
use Rattle.std.proofs.Common.{◌≡◌, ◌≢◌, ◌⊎◌, inl, inr, ℕ, zero, suc, ◌<◌, ◌≤◌, ◌+◌, ◌-◌, ◌==◌, ◌&&◌, ◌∙◌, nat_lt, Bool, true, false, cond, Option, Some, None, List, [], ◌∷◌, ◌++◌, drop, take, get_or, length, slice_get, Contains, IsSome, refl, ap, sym, subst, arith, eqb-true, ltb-true, ne_eqb}
use Rattle.std.proofs.lemmas.{Bool.{and_parts, cases_eq, eq-eqb, lt-ltb}, List.{length-replicate, length-set, length-take-le, take_more}}
use Rattle.std.proofs.lemmas.{Option.{cond_some, option_and_then_some}, List.Elements.{All-drop, All-nil, All-push, Contains-append_cases}}
use Rattle.rm_base.proofs.{Slots.{all-get}, Members.{behind, first-or-rest, in-front, none-in}}
use Rattle.rm_history.specs.{Tree.{IsThere, end_of, owner, reset_of}, World.{blocks_of, creation_of, exists, file_of}}
use Rattle.rm_history.{specs.declared.world.{Datafile.{Datafile}, World.{World}}, proofs.Owners.{owner-cases}}
use Rattle.rm_track.specs.Bitmaps.{Bitmap, Tracked, at_file, ending, fresh, mark_at, newest, switch_at, switched, tracked_at, with_file, with_mark}
use Rattle.rm_track.{specs.Told.{starts, starts_of}, proofs.Places.{found-other, found-same}}
use Rattle.rm_catalog_typed.specs.{Facts.{IsTypedCatalog}, Ledger.{Ledger}, LedgerFacts.{IsCreated, IsLedger}}
use Rattle.rm_catalog_typed.proofs.Trees.{Keeps, parents_below}
use Rattle.rm_machine.specs.State.{ledger, tree, world, current_of, now_of, on_path}
use Rattle.rm_machine.specs.Tracked.{AreTracked, IsTracked, first_tracker, fresh_from, switch_all, tracks, with_tracker}
use Rattle.rm_machine.{specs.declared.state.State.{State}, proofs.Numbers.{file-at, file-place}}

-- Where the bitmaps start

-- one that starts there
pub record StartsAt (xs : List Bitmap) (low : ℕ) : Type 0 where
  pub bitmap : Bitmap
  pub is : Contains xs bitmap
  pub start : bitmap.start ≡ low

starts-behind : (x : Bitmap) (xs : List Bitmap) (low : ℕ) → StartsAt xs low → StartsAt (x ∷ xs) low
starts-behind x xs low at = record { bitmap = at.bitmap; is = behind x xs at.bitmap at.is; start = at.start }

starts-from : (xs : List Bitmap) (start low : ℕ) → Contains (starts_of xs start) low → StartsAt xs low ⊎ (low ≡ start)
starts-from [] start low is = elim (first-or-rest start [] low is) [
  | inl same ↦ inr (sym same)
  | inr none ↦ absurd (none-in low none)
]
starts-from (x ∷ xs) start low is = elim (first-or-rest x.start (starts_of xs start) low is) [
  | inl same ↦ inl (record { bitmap = x; is = in-front x xs; start = same })
  | inr rest ↦ elim (starts-from xs start low rest) [
    | inl at ↦ inl (starts-behind x xs low at)
    | inr last ↦ inr last
  ]
]

starts-ended : (xs : List Bitmap) (start : ℕ) (x : Bitmap) → Contains xs x → Contains (starts_of xs start) x.start
starts-ended [] start x is = absurd (none-in x is)
starts-ended (y ∷ ys) start x is = elim (first-or-rest y ys x is) [
  | inl same ↦ subst (λ (z : Bitmap). Contains (y.start ∷ starts_of ys start) z.start) same (in-front y.start (starts_of ys start))
  | inr rest ↦ behind y.start (starts_of ys start) x.start (starts-ended ys start x rest)
]

-- the current one is one of them
starts-last : (xs : List Bitmap) (start : ℕ) → Contains (starts_of xs start) start
starts-last [] start = in-front start []
starts-last (x ∷ xs) start = behind x.start (starts_of xs start) start (starts-last xs start)

pub starts-current : (t : Tracked) → Contains (starts t) t.start
starts-current t = starts-last t.ended t.start

dropped-from : (k : ℕ) (xs : List Bitmap) (x : Bitmap) → Contains (drop k xs) x → Contains xs x
dropped-from zero xs x is = is
dropped-from (suc k) [] x is = is
dropped-from (suc k) (y ∷ ys) x is = behind y ys x (dropped-from k ys x is)

ended-from : (c : ℕ) (t : Tracked) (x : Bitmap) → Contains (t.ended ++ ending c t ∷ []) x → Contains (starts t) x.start
ended-from c t x is = elim (Contains-append_cases t.ended (ending c t ∷ []) x is) [
  | inl old ↦ starts-ended t.ended t.start x old
  | inr last ↦ elim (first-or-rest (ending c t) [] x last) [
    | inl same ↦ subst (λ (y : Bitmap). Contains (starts t) y.start) same (starts-current t)
    | inr none ↦ absurd (none-in x none)
  ]
]

-- after a switch they start where they did, or at the checkpoint
pub starts-switched : (c : ℕ) (t : Tracked) (low : ℕ) → Contains (starts (switched c t)) low → Contains (starts t) low ⊎ (low ≡ c)
starts-switched c t low is =
    let all : List Bitmap = t.ended ++ ending c t ∷ [] in elim (starts-from (newest 7 all) c low is) [
      | inl at ↦ inl (subst (Contains (starts t)) at.start (ended-from c t at.bitmap (dropped-from (length all - 7) all at.bitmap at.is)))
      | inr last ↦ inr last
    ]

-- What is found of a datafile

mapped-from : (step : Tracked → Tracked) (o : Option Tracked) (t : Tracked) → option_map step o ≡ Some t → (u : Tracked) × (o ≡ Some u) × (t ≡ step u)
mapped-from step None t is = absurd (cc)
mapped-from step (Some u) t is = let same : step u ≡ t = cc in (u, refl, sym same)

mapped-some : (step : Tracked → Tracked) (o : Option Tracked) → IsSome o → IsSome (option_map step o)
mapped-some step None is = absurd (cc)
mapped-some step (Some u) is = refl

-- after one of them became another: what was found before, or what became of that
pub at-file : (f : ℕ) (step : Tracked → Tracked) (ts : List Tracked) (g : ℕ) (t : Tracked) → ((u : Tracked) → (step u).file ≡ u.file) → tracked_at (at_file f step ts) g ≡ Some t
    → (u : Tracked) × (tracked_at ts g ≡ Some u) × ((t ≡ u) ⊎ (t ≡ step u))
at-file f step ts g t stays is = elim (cases_eq g f) [
  | inl same ↦
      let here : option_map step (tracked_at ts g) ≡ Some t = ap (λ n. option_map step (tracked_at ts n)) same ∙ sym (found-same f step ts stays) ∙ ap (λ n. tracked_at (at_file f step ts) n) (sym same) ∙ is in
      let was = mapped-from step (tracked_at ts g) t here in
      (was.0, was.1, inr was.2)
  | inr other ↦ (t, sym (found-other f g step ts stays other) ∙ is, inl refl)
]

-- they are new ones of datafile k of these, of which the first has number f
pub record IsFresh (w : World) (i at f : ℕ) (ds : List Datafile) (g : ℕ) (t : Tracked) : Type 0 where
  pub k : ℕ
  pub datafile : Datafile
  pub is : slice_get ds k ≡ Some datafile
  pub number : g ≡ f + k
  pub here : exists w i at datafile ≡ true
  pub bitmaps : t ≡ fresh g datafile.blocks at

fresh-further : (w : World) (i at f : ℕ) (d : Datafile) (ds : List Datafile) (g : ℕ) (t : Tracked) → IsFresh w i at (f + 1) ds g t → IsFresh w i at f (d ∷ ds) g t
fresh-further w i at f d ds g t is = record { k = suc is.k; datafile = is.datafile; is = is.is; number = let number = is.number in omega (arith, number); here = is.here; bitmaps = is.bitmaps }

fresh-here : (w : World) (i at f : ℕ) (d : Datafile) (ds : List Datafile) (g : ℕ) (t : Tracked) (same : Bool) → (f == g) ≡ same → exists w i at d ≡ true → (tracked_at (fresh_from w i at (f + 1) ds) g ≡ Some t → IsFresh w i at (f + 1) ds g t)
    → cond same (Some (fresh f d.blocks at)) (tracked_at (fresh_from w i at (f + 1) ds) g) ≡ Some t → IsFresh w i at f (d ∷ ds) g t
fresh-here w i at f d ds g t true same here rest is =
    let number : f ≡ g = eqb-true f g same in
    let new : fresh f d.blocks at ≡ t = cc is in
    record { k = 0; datafile = d; is = refl; number = omega (arith, number); here = here; bitmaps = sym new ∙ ap (λ n. fresh n d.blocks at) number }
fresh-here w i at f d ds g t false same here rest is = fresh-further w i at f d ds g t (rest is)

fresh-by : (w : World) (i at f : ℕ) (d : Datafile) (ds : List Datafile) (g : ℕ) (t : Tracked) (here : Bool) → exists w i at d ≡ here → (tracked_at (fresh_from w i at (f + 1) ds) g ≡ Some t → IsFresh w i at (f + 1) ds g t)
    → tracked_at (cond here (fresh f d.blocks at ∷ fresh_from w i at (f + 1) ds) (fresh_from w i at (f + 1) ds)) g ≡ Some t → IsFresh w i at f (d ∷ ds) g t
fresh-by w i at f d ds g t true here rest is = fresh-here w i at f d ds g t (f == g) refl here rest is
fresh-by w i at f d ds g t false here rest is = fresh-further w i at f d ds g t (rest is)

-- where all of them are tracked anew
pub at-fresh_from : (w : World) (i at f : ℕ) (ds : List Datafile) (g : ℕ) (t : Tracked) → tracked_at (fresh_from w i at f ds) g ≡ Some t → IsFresh w i at f ds g t
at-fresh_from w i at f [] g t is = absurd (cc)
at-fresh_from w i at f (d ∷ ds) g t is = fresh-by w i at f d ds g t (exists w i at d) refl (at-fresh_from w i at (f + 1) ds g t) is

-- each that exists there is tracked
some-by : (first : Bool) (x : Tracked) (rest : Option Tracked) → (first ≡ true) ⊎ IsSome rest → IsSome (cond first (Some x) rest)
some-by true x rest is = refl
some-by false x rest is = elim is [
  | inl first ↦ absurd (cc)
  | inr later ↦ later
]

later-by : (here : Bool) (x : Tracked) (ts : List Tracked) (g : ℕ) → IsSome (tracked_at ts g) → IsSome (tracked_at (cond here (x ∷ ts) ts) g)
later-by true x ts g is = some-by (x.file == g) x (tracked_at ts g) (inr is)
later-by false x ts g is = is

fresh-found : (w : World) (i at f : ℕ) (ds : List Datafile) (k : ℕ) (d : Datafile) → slice_get ds k ≡ Some d → exists w i at d ≡ true → IsSome (tracked_at (fresh_from w i at f ds) (f + k))
fresh-found w i at f [] k d is here = absurd (cc)
fresh-found w i at f (e ∷ ds) zero d is here =
    let same : e ≡ d = (let found : Some e ≡ Some d = is in cc) in
    let number : f ≡ f + 0 = omega arith in
    subst (λ b. IsSome (tracked_at (cond b (fresh f e.blocks at ∷ fresh_from w i at (f + 1) ds) (fresh_from w i at (f + 1) ds)) (f + 0))) (sym (ap (exists w i at) same ∙ here))
    (some-by (f == f + 0) (fresh f e.blocks at) (tracked_at (fresh_from w i at (f + 1) ds) (f + 0)) (inl (eq-eqb f (f + 0) number)))
fresh-found w i at f (e ∷ ds) (suc k) d is here =
    let number : f + 1 + k ≡ f + suc k = omega arith in
    later-by (exists w i at e) (fresh f e.blocks at) (fresh_from w i at (f + 1) ds) (f + suc k)
    (subst (λ n. IsSome (tracked_at (fresh_from w i at (f + 1) ds) n)) number (fresh-found w i at (f + 1) ds k d is here))

-- One datafile more of which changes are tracked anew

push-by : (x new next : Tracked) (ts : List Tracked) (last first : Bool) → new ≡ next → x.file ≢ next.file
    → cond first (x ∷ cond last (with_file ts new) ts) (cond last (with_file ts new) ts) ≡ cond last (with_file (cond first (x ∷ ts) ts) next) (cond first (x ∷ ts) ts)
push-by x new next ts true true same other =
    ap (λ t. x ∷ with_file ts t) same ∙ sym (ap (λ b. cond b (next ∷ ts) (x ∷ with_file ts next)) (ne_eqb x.file next.file other))
push-by x new next ts true false same other = ap (with_file ts) same
push-by x new next ts false true same other = refl
push-by x new next ts false false same other = refl

fresh-push : (w : World) (i at f : ℕ) (ds : List Datafile) (d : Datafile)
    → fresh_from w i at f (ds ++ d ∷ []) ≡ cond (exists w i at d) (with_file (fresh_from w i at f ds) (fresh (f + length ds) d.blocks at)) (fresh_from w i at f ds)
fresh-push w i at f [] d =
    let same : f ≡ f + 0 = omega arith in
    ap (λ n. cond (exists w i at d) (fresh n d.blocks at ∷ []) []) same
fresh-push w i at f (e ∷ es) d =
    let same : f + 1 + length es ≡ f + length (e ∷ es) = omega arith in
    ap (λ ts. cond (exists w i at e) (fresh f e.blocks at ∷ ts) ts) (fresh-push w i at (f + 1) es d)
    ∙ push-by (fresh f e.blocks at) (fresh (f + 1 + length es) d.blocks at) (fresh (f + length (e ∷ es)) d.blocks at) (fresh_from w i at (f + 1) es) (exists w i at d) (exists w i at e)
    (ap (λ n. fresh n d.blocks at) same) (λ is. omega (arith, is))

pub fresh-next : (w : World) (i at : ℕ) (ds : List Datafile) (k : ℕ) (d : Datafile) (old new : List Tracked) → k < length ds → old ≡ fresh_from w i at 1 (take k ds)
    → new ≡ cond (exists w i at (get_or ds k d)) (with_file old (fresh (k + 1) (get_or ds k d).blocks at)) old → new ≡ fresh_from w i at 1 (take (k + 1) ds)
fresh-next w i at ds k d old new inside was is =
    let number : k + 1 ≡ 1 + length (take k ds) = omega (arith, length-take-le k ds (omega (arith, inside))) in
    is
    ∙ (λ j. cond (exists w i at (get_or ds k d)) (with_file (was j) (fresh (number j) (get_or ds k d).blocks at)) (was j))
    ∙ sym (fresh-push w i at 1 (take k ds) (get_or ds k d))
    ∙ ap (fresh_from w i at 1) (sym (take_more ds k d inside))

-- In which states they are as they should be

-- a datafile on the current path is there, and exists at `now`
pub on-path : (s : State) (f : ℕ) (d : Datafile) → on_path s f ≡ Some d → (file_of (world s) f ≡ Some d) × (exists (world s) (current_of s) (now_of s) d ≡ true)
on-path s f d is =
    option_and_then_some (λ e. cond (exists (world s) (current_of s) (now_of s) e) (Some e) None) (file_of (world s) f) d is
    (λ e known kept.
    let both = cond_some (exists (world s) (current_of s) (now_of s) e) e d kept in
    (known ∙ ap Some both.1, ap (exists (world s) (current_of s) (now_of s)) (sym both.1) ∙ both.0))

-- and one that is so is on it
pub path-on : (s : State) (f : ℕ) (d : Datafile) → file_of (world s) f ≡ Some d → exists (world s) (current_of s) (now_of s) d ≡ true → on_path s f ≡ Some d
path-on s f d is here =
    ap (λ (o : Option Datafile). option_and_then (λ e. cond (exists (world s) (current_of s) (now_of s) e) (Some e) None) o) is
    ∙ ap (λ b. cond b (Some d) None) here

-- where there are none, since changes are not tracked
pub tracked-none : (q : State) → tracks q.instance.is_open (ledger q) ≡ false → q.instance.tracker ≡ [] → AreTracked q
tracked-none q off none = record {
  idle = λ _. none;
  full = λ on. absurd (let clash : true ≡ false = sym on ∙ off in cc);
  each = λ f t found. absurd (let clash : None ≡ Some t = ap (λ ts. tracked_at ts f) (sym none) ∙ found in cc);
}

-- q, with the mode, the setting, the current incarnation, the datafiles and the bitmaps of s
abbrev pub tracking_as : State → State → State
tracking_as s q =
    record {
      catalog = record q.catalog {
        ledger = record (ledger q) {
          base = record (ledger q).base { current = current_of s; tracking = (ledger s).base.tracking };
          files = (ledger s).files;
        };
      };
      instance = record q.instance { is_open = s.instance.is_open; tracker = s.instance.tracker };
    }

kept-in : (s q : State) → reset_of (tree q) (current_of s) ≤ reset_of (tree s) (current_of s) → now_of s ≤ end_of (tree q) (current_of s) → ((f : ℕ) (d : Datafile) → on_path (tracking_as s q) f ≡ Some d → on_path s f ≡ Some d) → AreTracked s → AreTracked (tracking_as s q)
kept-in s q reset later same is = record {
  idle = is.idle;
  full = λ on f d here. is.full on f d (same f d here);
  each = λ f t found.
      let was = is.each f t found in
      record {
        blocks = was.blocks;
        ended = was.ended;
        begun = omega (arith, was.begun, later);
        kept = λ low at. let start = was.kept low at in record { reset = omega (arith, start.reset, reset); created = start.created };
      };
}

-- a datafile on the path of an incarnation was created below its end
created-below : (l : Ledger) (i : ℕ) (d : Datafile) → IsLedger l → IsThere l.tree i → IsCreated l.tree d → owner l.tree i d.creation ≡ d.inc → d.creation < end_of l.tree i
created-below l i d rules there made own = elim (owner-cases l.tree (parents_below l.tree rules.incarnations) i d.creation there.0) [
  | inl here ↦ subst (λ j. d.creation < end_of l.tree j) (sym own ∙ here.1) made.creation.1
  | inr above ↦ let range = rules.incarnations.ranges i there in omega (arith, above.0, range.1)
]

pub some-is : {X : Type 0} (o : Option X) → IsSome o → (x : X) × (o ≡ Some x)
some-is None some = absurd (cc)
some-is (Some x) some = (x, refl)

-- where the tree grew, a datafile is on the current path only if it was
pub on_path-later : (s q : State) → IsTypedCatalog s.catalog → Keeps (tree s) (tree q) → (f : ℕ) (d : Datafile) → on_path (tracking_as s q) f ≡ Some d → on_path s f ≡ Some d
on_path-later s q rules keeps f d is =
    let there = rules.ledger.current in
    let found = on-path (tracking_as s q) f d is in
    let own : owner (tree s) (current_of s) d.creation ≡ d.inc = sym (keeps.owners (current_of s) d.creation there)
    ∙ eqb-true (owner (tree q) (current_of s) d.creation) d.inc (and_parts (nat_lt d.creation (end_of (tree q) (current_of s))) (owner (tree q) (current_of s) d.creation == d.inc) found.1).1 in
    let place = file-place (world s) f d found.0 in
    let made = all-get (IsCreated (tree s)) (ledger s).files place.place d place.is rules.ledger.datafiles.each in
    let below = created-below (ledger s) (current_of s) d rules.ledger there made own in
    path-on s f d found.0 ((λ i. lt-ltb d.creation (now_of s) below i && eq-eqb (owner (tree s) (current_of s) d.creation) d.inc own i))

-- and then it still is
pub on_path-stays : (s q : State) → IsTypedCatalog s.catalog → Keeps (tree s) (tree q) → (f : ℕ) → IsSome (on_path s f) → IsSome (on_path (tracking_as s q) f)
on_path-stays s q rules keeps f some =
    let there = rules.ledger.current in
    let known = some-is (on_path s f) some in
    let d = known.0 in
    let found = on-path s f d known.1 in
    let both = and_parts (nat_lt d.creation (now_of s)) (owner (tree s) (current_of s) d.creation == d.inc) found.1 in
    let below : d.creation < end_of (tree q) (current_of s) = omega (arith, ltb-true d.creation (now_of s) both.0, keeps.end (current_of s) there) in
    let own : owner (tree q) (current_of s) d.creation ≡ d.inc = keeps.owners (current_of s) d.creation there ∙ eqb-true (owner (tree s) (current_of s) d.creation) d.inc both.1 in
    let is : on_path (tracking_as s q) f ≡ Some d = path-on (tracking_as s q) f d found.0 (λ i. lt-ltb d.creation (end_of (tree q) (current_of s)) below i && eq-eqb (owner (tree q) (current_of s) d.creation) d.inc own i) in
    subst (λ (o : Option Datafile). IsSome o) (sym is) refl

pub tracked-later : (s q : State) → IsTypedCatalog s.catalog → Keeps (tree s) (tree q) → AreTracked s → AreTracked (tracking_as s q)
tracked-later s q rules keeps is =
    let there = rules.ledger.current in
    kept-in s q (omega (arith, keeps.reset (current_of s) there)) (keeps.end (current_of s) there) (on_path-later s q rules keeps) is

-- where it is the same
abbrev pub on_tree_of : State → State → State
on_tree_of s q = record q { catalog = record q.catalog { ledger = record (ledger q) { tree = tree s } } }

pub tracked-same : (s q : State) → AreTracked s → AreTracked (tracking_as s (on_tree_of s q))
tracked-same s q is = kept-in s (on_tree_of s q) (omega arith) (omega arith) (λ f d here. here) is

-- where those of one datafile became others, which are as they should be
pub tracked-at_file : (s : State) (f : ℕ) (step : Tracked → Tracked) → ((u : Tracked) → (step u).file ≡ u.file) → ((g : ℕ) (u : Tracked) → IsTracked s g u → IsTracked s g (step u))
    → AreTracked s → AreTracked (with_tracker s (at_file f step s.instance.tracker))
tracked-at_file s f step stays good is = record {
  idle = λ off. ap (at_file f step) (is.idle off);
  full = λ on g d here. elim (cases_eq g f) [
    | inl same ↦
        let at : tracked_at (at_file f step s.instance.tracker) g ≡ option_map step (tracked_at s.instance.tracker g) =
        ap (tracked_at (at_file f step s.instance.tracker)) same ∙ found-same f step s.instance.tracker stays ∙ ap (λ n. option_map step (tracked_at s.instance.tracker n)) (sym same) in
        subst (λ (o : Option Tracked). IsSome o) (sym at) (mapped-some step (tracked_at s.instance.tracker g) (is.full on g d here))
    | inr other ↦ subst (λ (o : Option Tracked). IsSome o) (sym (found-other f g step s.instance.tracker stays other)) (is.full on g d here)
  ];
  each = λ g t found.
      let was = at-file f step s.instance.tracker g t stays found in
      let so : IsTracked s g t = elim was.2 [
        | inl same ↦ subst (IsTracked s g) (sym same) (is.each g was.0 was.1)
        | inr made ↦ subst (IsTracked s g) (sym made) (good g was.0 (is.each g was.0 was.1))
      ] in
      record { blocks = so.blocks; ended = so.ended; begun = so.begun; kept = λ low at. let start = so.kept low at in record { reset = start.reset; created = start.created } };
}

-- where a block was marked
pub tracked-marked : (s : State) (f b : ℕ) → AreTracked s → AreTracked (with_tracker s (mark_at s.instance.tracker f b))
tracked-marked s f b is = tracked-at_file s f (with_mark b) (λ u. refl) (λ g u was. record { blocks = length-set u.marks b true ∙ was.blocks; ended = was.ended; begun = was.begun; kept = was.kept }) is

-- where the current one ended at `now`
switched-is : (s : State) (g : ℕ) (u : Tracked) → IsTracked s g u → IsTracked s g (switched (now_of s) u)
switched-is s g u was =
    let first = was.kept u.start (starts-current u) in
    let P : Bitmap → Type 0 = λ x. length x.marks ≡ blocks_of (world s) g in
    let all : List Bitmap = u.ended ++ ending (now_of s) u ∷ [] in
    record {
      blocks = length-replicate (length u.marks) false ∙ was.blocks;
      ended = All-drop P (length all - 7) all (All-push P u.ended (ending (now_of s) u) was.ended was.blocks);
      begun = omega arith;
      kept = λ low at. elim (starts-switched (now_of s) u low at) [
        | inl old ↦ was.kept low old
        | inr new ↦ record { reset = omega (arith, first.reset, was.begun, new); created = omega (arith, first.created, was.begun, new) }
      ];
    }

pub tracked-switched : (s : State) (f : ℕ) → AreTracked s → AreTracked (with_tracker s (switch_at s.instance.tracker f (now_of s)))
tracked-switched s f is = tracked-at_file s f (switched (now_of s)) (λ u. refl) (switched-is s) is

pub tracked-switch_all : (s : State) (fs : List ℕ) → AreTracked s → AreTracked (with_tracker s (switch_all (now_of s) fs s.instance.tracker))
tracked-switch_all s [] is = is
tracked-switch_all s (f ∷ fs) is = tracked-switch_all (with_tracker s (switch_at s.instance.tracker f (now_of s))) fs (tracked-switched s f is)

-- new ones from `now` on
fresh-is : (q : State) → IsTypedCatalog q.catalog → (g : ℕ) (t : Tracked) → IsFresh (world q) (current_of q) (now_of q) 1 (ledger q).files g t → IsTracked q g t
fresh-is q rules g t is =
    let d : Datafile = is.datafile in
    let at : file_of (world q) g ≡ Some d = ap (file_of (world q)) is.number ∙ file-at (world q) is.k d is.is in
    let blocks : blocks_of (world q) g ≡ d.blocks = ap (λ (o : Option Datafile). option_map_or (λ d. d.blocks) o 0) at in
    let creation : creation_of (world q) g ≡ d.creation = ap (λ (o : Option Datafile). option_map_or (λ d. d.creation) o 0) at in
    let below : d.creation < now_of q = ltb-true d.creation (now_of q) (and_parts (nat_lt d.creation (now_of q)) (owner (tree q) (current_of q) d.creation == d.inc) is.here).0 in
    let range = rules.ledger.incarnations.ranges (current_of q) rules.ledger.current in
    subst (IsTracked q g) (sym is.bitmaps) (record {
      blocks = length-replicate d.blocks false ∙ sym blocks;
      ended = All-nil (λ (x : Bitmap). length x.marks ≡ blocks_of (world q) g);
      begun = omega arith;
      kept = λ low at. elim (first-or-rest (now_of q) [] low at) [
        | inl same ↦ record { reset = omega (arith, range.1, same); created = omega (arith, below, creation, same) }
        | inr none ↦ absurd (none-in low none)
      ];
    })

first-is : (q : State) (on : Bool) → tracks q.instance.is_open (ledger q) ≡ on → IsTypedCatalog q.catalog
    → q.instance.tracker ≡ cond on (fresh_from (world q) (current_of q) (now_of q) 1 (ledger q).files) [] → AreTracked q
first-is q false on rules is = tracked-none q on is
first-is q true on rules is = record {
  idle = λ off. absurd (let clash : true ≡ false = sym on ∙ off in cc);
  full = λ _ g d here.
      let known = on-path q g d here in
      let place = file-place (world q) g d known.0 in
      coe 1 0 (i. IsSome (tracked_at (is i) (sym place.number i))) (fresh-found (world q) (current_of q) (now_of q) 1 (ledger q).files place.place d place.is known.1);
  each = λ g t found. fresh-is q rules g t (at-fresh_from (world q) (current_of q) (now_of q) 1 (ledger q).files g t (ap (λ ts. tracked_at ts g) (sym is) ∙ found));
}

-- where changes are tracked anew
pub tracked-fresh : (q : State) → IsTypedCatalog q.catalog → q.instance.tracker ≡ first_tracker q.instance.is_open (ledger q) → AreTracked q
tracked-fresh q rules is = first-is q (tracks q.instance.is_open (ledger q)) refl rules is
