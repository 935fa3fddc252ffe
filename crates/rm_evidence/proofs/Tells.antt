-- What is told of records, one after the other.
use Rattle.std.specs.Prelude.{Ok, Err, IfSome}
use Rattle.std.proofs.Common.{◌≡◌, ◌∙◌, ◌<◌, ◌≤◌, ◌+◌, ◌-◌, ℕ, suc, Option, Some, None, List, [], ◌∷◌, ◌++◌, zero, append_assoc, drop, drop-cons, length-append, get_or, map, slice_get, take, refl, ap, sym, subst, arith, length}
use Rattle.std.proofs.lemmas.List.{append-nil, get_or-map, length-drop, length-map, map-append, take_more}
use Rattle.std.proofs.lemmas.Slice.Zip.{AllZip-long, all_zipped_more}
use Rattle.rm_base.{specs.Store.{Held}, proofs.Lists.{all_zip_join}}
use Rattle.rm_catalog.specs.declared.record.Record.{Record}
use Rattle.rm_catalog.specs.declared.record.Record.TheVariants as kind
use Rattle.rm_evidence.specs.{Database.{Database}, Objects.{IsLogObject, IsPieceObject, IsSetObject}, Seen.{IsSeen}, Taking.{Adds, IsTold}}
use Rattle.rm_evidence.specs.Telling.{AreTold, StandUnder, StandsUnder, TellAll, Tells, TellsAt, stands_in, with_artefact, with_told}
use Rattle.rm_evidence.specs.declared.{evidence.Evidence.{Evidence}, telling.Told.{Told, TheVariants.{Nothing, OfLog, OfPiece, OfSet}}}
use Rattle.rm_evidence.proofs.Adding.{adds-bad_log, adds-bad_piece, adds-bad_set, adds-log, adds-none, adds-piece, adds-set}
use Rattle.rm_evidence.proofs.Seen.{seen-then}

-- what is told of a record is what it adds
pub adds-told : (held : Held) (base : Database) (r : Record) (t : Told) (e : Evidence) → Tells base r (stands_in held r) t → Adds held base (r ∷ []) e (with_told e r t)
adds-told held base (kind.Log l) Nothing e tells = adds-none held base (kind.Log l) e tells
adds-told held base (kind.Log l) (OfLog (Ok a)) e tells = adds-log held base l a e (with_artefact e l.id (OfLog (Ok a))) tells.0 tells.1 refl
adds-told held base (kind.Log l) (OfLog (Err bad)) e tells = adds-bad_log held base l bad e (with_artefact e l.id (OfLog (Err bad))) tells.0 tells.1 refl
adds-told held base (kind.Log l) (OfPiece told) e tells = absurd tells
adds-told held base (kind.Log l) (OfSet told) e tells = absurd tells
adds-told held base (kind.Piece p) Nothing e tells = adds-none held base (kind.Piece p) e tells
adds-told held base (kind.Piece p) (OfLog told) e tells = absurd tells
adds-told held base (kind.Piece p) (OfPiece (Ok a)) e tells = adds-piece held base p a e tells.0 tells.1
adds-told held base (kind.Piece p) (OfPiece (Err bad)) e tells = adds-bad_piece held base p bad e (with_artefact e p.id (OfPiece (Err bad))) tells.0 tells.1 refl
adds-told held base (kind.Piece p) (OfSet told) e tells = absurd tells
adds-told held base (kind.Set s) Nothing e tells = adds-none held base (kind.Set s) e tells
adds-told held base (kind.Set s) (OfLog told) e tells = absurd tells
adds-told held base (kind.Set s) (OfPiece told) e tells = absurd tells
adds-told held base (kind.Set s) (OfSet (Ok a)) e tells = adds-set held base s a e tells.0 tells.1
adds-told held base (kind.Set s) (OfSet (Err bad)) e tells = adds-bad_set held base s bad e (with_artefact e s.id (OfSet (Err bad))) tells.0 tells.1 refl
adds-told held base _ t e tells = adds-none held base _ e (λ counts. counts)

-- what was got tells what stands there tells
tells-there : (held : Held) (base : Database) (r : Record) (s : Option (List ℕ)) (t : Told) → StandsUnder held r s → Tells base r s t → Tells base r (stands_in held r) t
tells-there held base (kind.Log l) s Nothing under tells = tells
tells-there held base (kind.Log l) s (OfLog told) under tells = (tells.0, subst (λ (o : Option (List ℕ)). IsTold (IsLogObject l) o told) (under tells.0) tells.1)
tells-there held base (kind.Log l) s (OfPiece told) under tells = tells
tells-there held base (kind.Log l) s (OfSet told) under tells = tells
tells-there held base (kind.Piece p) s Nothing under tells = tells
tells-there held base (kind.Piece p) s (OfLog told) under tells = tells
tells-there held base (kind.Piece p) s (OfPiece told) under tells = (tells.0, subst (λ (o : Option (List ℕ)). IsTold (IsPieceObject p) o told) (under tells.0) tells.1)
tells-there held base (kind.Piece p) s (OfSet told) under tells = tells
tells-there held base (kind.Set e) s Nothing under tells = tells
tells-there held base (kind.Set e) s (OfLog told) under tells = tells
tells-there held base (kind.Set e) s (OfPiece told) under tells = tells
tells-there held base (kind.Set e) s (OfSet told) under tells = (tells.0, subst (λ (o : Option (List ℕ)). IsTold (IsSetObject base e) o told) (under tells.0) tells.1)
tells-there held base _ s Nothing under tells = tells
tells-there held base _ s (OfLog told) under tells = tells
tells-there held base _ s (OfPiece told) under tells = tells
tells-there held base _ s (OfSet told) under tells = tells

-- any bytes stand there by a store that has them everywhere
stands-any : (r : Record) (s : Option (List ℕ)) → StandsUnder (λ name. s) r s
stands-any (kind.Log l) s = λ status. refl
stands-any (kind.Piece p) s = λ status. refl
stands-any (kind.Set e) s = λ status. refl
stands-any _ s = tt

-- so it is told by what is seen
pub told-seen : (o : Option Held) (base : Database) (r : Record) (s : Option (List ℕ)) (t : Told) → IfSome o (λ h. StandsUnder h r s) → Tells base r s t → IsSeen o (λ h. Tells base r (stands_in h r) t)
told-seen None base r s t under tells = let all : Held = λ name. s in (all, tells-there all base r s t (stands-any r s) tells)
told-seen (Some h) base r s t under tells = tells-there h base r s t under tells

-- and is what is added
pub adds-seen : (o : Option Held) (base : Database) (r : Record) (t : Told) (e new : Evidence) → new ≡ with_told e r t → IsSeen o (λ h. Tells base r (stands_in h r) t) → IsSeen o (λ h. Adds h base (r ∷ []) e new)
adds-seen o base r t e new is told = seen-then o told (λ h tells. subst (λ (x : Evidence). Adds h base (r ∷ []) e x) (sym is) (adds-told h base r t e tells))

-- the same of records, one after the other
pub are-told : (o : Option Held) (base : Database) (rs : List Record) (ss : List (Option (List ℕ))) (ts : List Told) → StandUnder o rs ss → TellAll base rs ss ts → AreTold o base rs ts
are-told o base [] [] [] under tells = tt
are-told o base [] [] (t ∷ ts) under tells = absurd tells
are-told o base [] (s ∷ ss) ts under tells = absurd tells
are-told o base (r ∷ rs) [] ts under tells = absurd tells
are-told o base (r ∷ rs) (s ∷ ss) [] under tells = absurd tells
are-told o base (r ∷ rs) (s ∷ ss) (t ∷ ts) under tells = (told-seen o base r s t under.0 tells.0, are-told o base rs ss ts under.1 tells.1)

-- one record more
tell-more : (base : Database) (rs : List Record) (ss : List (Option (List ℕ))) (ts : List Told) (r : Record) (s : Option (List ℕ)) (t : Told) → TellAll base rs ss ts → Tells base r s t → TellAll base (rs ++ r ∷ []) (ss ++ s ∷ []) (ts ++ t ∷ [])
tell-more base [] [] [] r s t all one = (one, tt)
tell-more base [] [] (z ∷ zs) r s t all one = absurd all
tell-more base [] (y ∷ ys) ts r s t all one = absurd all
tell-more base (x ∷ xs) [] ts r s t all one = absurd all
tell-more base (x ∷ xs) (y ∷ ys) [] r s t all one = absurd all
tell-more base (x ∷ xs) (y ∷ ys) (z ∷ zs) r s t all one = (all.0, tell-more base xs ys zs r s t all.1 one)

-- the item at a place
record HasItem {X : Type 0} (xs : List X) (k : ℕ) : Type 0 where
  item : X
  is : slice_get xs k ≡ Some item
  more : take (k + 1) xs ≡ take k xs ++ item ∷ []

item-at : {X : Type 0} (xs : List X) (k : ℕ) → k < length xs → HasItem xs k
item-at [] k inside = absurd (omega arith)
item-at (x ∷ xs) zero inside = record { item = x; is = refl; more = refl }
item-at {X} (x ∷ xs) (suc k) inside =
    let rest : HasItem xs k = item-at xs k (let lt : k < length xs = omega arith in lt) in
    let next : suc k + 1 ≡ suc (k + 1) = omega arith in
    record { item = rest.item; is = rest.is; more = ap (λ (n : ℕ). take n (x ∷ xs)) next ∙ ap (λ (zs : List X). x ∷ zs) rest.more }

-- the first of what is left stands at its place
pub first-left : {X : Type 0} (xs : List X) (k : ℕ) (x d : X) (rest : List X) → drop k xs ≡ x ∷ rest → (get_or xs k d ≡ x) × (drop (k + 1) xs ≡ rest)
first-left [] zero x d rest is = absurd cc
first-left [] (suc k) x d rest is = absurd cc
first-left (y ∷ ys) zero x d rest is = (let same : y ≡ x = cc in same, let same : ys ≡ rest = cc in same)
first-left {X} (y ∷ ys) (suc k) x d rest is =
    let next : suc k + 1 ≡ suc (k + 1) = omega arith in
    let inner = first-left ys k x d rest is in
    (inner.0, ap (λ (n : ℕ). drop n (y ∷ ys)) next ∙ inner.1)

-- one more was got
pub stand-next : {X : Type 0} (see : X → Record) (xs : List X) (o p : Option Held) (i : ℕ) (x : X) (s : Option (List ℕ)) (ss ss' : List (Option (List ℕ))) → p ≡ o → i < length xs → x ≡ get_or xs i x → ss' ≡ ss ++ s ∷ []
    → StandUnder o (map see (take i xs)) ss → IfSome p (λ h. StandsUnder h (see x) s) → StandUnder o (map see (take (i + 1) xs)) ss'
stand-next {X} see xs o p i x s ss ss' same inside is longer before after =
    let more : map see (take (i + 1) xs) ≡ map see (take i xs) ++ see x ∷ [] =
    ap (map see) (take_more xs i x inside ∙ ap (λ (y : X). take i xs ++ y ∷ []) (sym is)) ∙ map-append see (take i xs) (x ∷ []) in
    coe 1 0 (j. StandUnder o (more j) (longer j))
    (all_zipped_more (λ r s. IfSome o (λ h. StandsUnder h r s)) (map see (take i xs)) ss (see x) s before (subst (λ (q : Option Held). IfSome q (λ h. StandsUnder h (see x) s)) same after))

-- the records are read from these items
module _ {X : Type 0} (see : X → Record) (xs : List X) (base : Database) where
  -- one more is told
  pub tell-next : (ss : List (Option (List ℕ))) (ts ts' : List Told) (t : Told) → length ts < length xs → length ss ≡ length xs → TellsAt base see xs ss (length ts) t → ts' ≡ ts ++ t ∷ []
      → TellAll base (map see (take (length ts) xs)) (take (length ts) ss) ts → TellAll base (map see (take (length ts') xs)) (take (length ts') ss) ts'
  tell-next ss ts ts' t inside many tells longer before =
      let k : ℕ = length ts in
      let x = item-at xs k inside in
      let s = item-at ss k (omega arith) in
      let long : length ts' ≡ k + 1 = ap length longer ∙ length-append ts (t ∷ []) in
      coe 1 0 (i. TellAll base (((ap (λ (n : ℕ). map see (take n xs)) long ∙ ap (map see) x.more) ∙ map-append see (take k xs) (x.item ∷ [])) i) ((ap (λ (n : ℕ). take n ss) long ∙ s.more) i) (longer i))
      (tell-more base (map see (take k xs)) (take k ss) ts (see x.item) s.item t before (tells x.item s.item x.is s.is))

  -- whatever is told of the rest, behind this it is told of all
  abbrev pub IsToldBefore : Option Held → List X → List Told → Type 0
  IsToldBefore o rest ts = (us : List Told) → AreTold o base (map see rest) us → AreTold o base (map see xs) (ts ++ us)

  -- nothing is told yet
  pub before-none : (o : Option Held) (ts : List Told) → ts ≡ [] → IsToldBefore o xs ts
  before-none o ts none us told = subst (λ (zs : List Told). AreTold o base (map see xs) (zs ++ us)) (sym none) told

  -- a part more is told
  pub before-part : (o p : Option Held) (part rest : List X) (ts us all : List Told) → p ≡ o → all ≡ ts ++ us → IsToldBefore o (part ++ rest) ts → AreTold p base (map see part) us → IsToldBefore o rest all
  before-part o p part rest ts us all same longer was more vs after =
      let joined = all_zip_join (λ r t. IsSeen o (λ h. Tells base r (stands_in h r) t)) (map see part) (map see rest) us vs (subst (λ (q : Option Held). AreTold q base (map see part) us) same more) after in
      let behind : all ++ vs ≡ ts ++ (us ++ vs) = ap (λ (zs : List Told). zs ++ vs) longer ∙ append_assoc ts us vs in
      coe 1 0 (i. AreTold o base (map see xs) (behind i)) (was (us ++ vs) (coe 1 0 (i. AreTold o base (map-append see part rest i) (us ++ vs)) joined))

  -- all are told
  pub before-end : (o : Option Held) (rest : List X) (ts : List Told) → length rest ≡ 0 → IsToldBefore o rest ts → AreTold o base (map see xs) ts
  before-end o [] ts none was = coe 0 1 (i. AreTold o base (map see xs) (append-nil ts i)) (was [] tt)
  before-end o (x ∷ rest) ts none was = absurd (omega (arith, none))

  -- the next one is put
  pub record IsNext (o : Option Held) (i : ℕ) (x : X) (t : Told) (ts : List Told) : Type 0 where
    pub told : IsSeen o (λ h. Tells base (see x) (stands_in h (see x)) t)
    pub rest : AreTold o base (drop (i + 1) (map see xs)) ts

  as-many : (o : Option Held) (i : ℕ) (ts : List Told) → AreTold o base (drop i (map see xs)) ts → length ts ≡ length xs - i
  as-many o i ts are =
      AllZip-long (λ r t. IsSeen o (λ h. Tells base r (stands_in h r) t)) (drop i (map see xs)) ts are
      ∙ length-drop i (map see xs) ∙ ap (λ (n : ℕ). n - i) (length-map xs see)

  pub told-inside : (o : Option Held) (i : ℕ) (t : Told) (ts : List Told) → AreTold o base (drop i (map see xs)) (t ∷ ts) → i < length xs
  told-inside o i t ts are = omega (arith, as-many o i (t ∷ ts) are)

  pub told-next : (o : Option Held) (i : ℕ) (x : X) (t : Told) (ts : List Told) → x ≡ get_or xs i x → AreTold o base (drop i (map see xs)) (t ∷ ts) → IsNext o i x t ts
  told-next o i x t ts is are =
      let inside = told-inside o i t ts are in
      let within : i < length (map see xs) = rw (length-map xs see) inside in
      let next : suc i ≡ i + 1 = omega arith in
      let here : get_or (map see xs) i (see x) ≡ see x = get_or-map see xs i x (see x) inside ∙ ap see (sym is) in
      let split : drop i (map see xs) ≡ see x ∷ drop (i + 1) (map see xs) = drop-cons (map see xs) i (see x) within ∙ (λ k. here k ∷ drop (next k) (map see xs)) in
      let all = subst (λ (rs : List Record). AreTold o base rs (t ∷ ts)) split are in
      record { told = all.0; rest = all.1 }

  pub none-left : (o : Option Held) (i : ℕ) (ts : List Told) → length ts ≡ 0 → AreTold o base (drop i (map see xs)) ts → length xs ≤ i
  none-left o i ts none are = omega (arith, as-many o i ts are, none)
