-- What is saved: each part is that of a datafile in place, or of an online log that is not lost.
use Rattle.std.specs.{List.{cons_option}, Option.{option_map, option_map_or}}
use Rattle.std.proofs.Common.{◌≡◌, ◌≢◌, ◌<◌, ◌≤◌, ◌+◌, ◌-◌, ◌∙◌, ◌++◌, ◌&&◌, not, inl, inr, ℕ, zero, suc, List, [], ◌∷◌, Option, Some, None, Bool, true, false, cond, refl, ap, sym, subst, arith, length, length-append, AllPairs, Contains, slice_get}
use Rattle.std.proofs.lemmas.List.{Elements.{Contains-append_cases, Contains-append_left, Contains-append_right}, Kept.{AllPairs-cons}}
use Rattle.rm_base.proofs.{Members.{behind, in-front, none-in, first-or-rest}, Lists.{pairs-append}, Standing.{each-in}}
use Rattle.rm_blocks.specs.File.{File}
use Rattle.rm_evidence.specs.Gathered.{placed_piece}
use Rattle.rm_machine.specs.{Saving.{SitePart, file_parts, log_parts, parts_of}, Sound.{IsSound}}
use Rattle.rm_machine.{specs.{State.{ledger, counted, is_lost, is_online}, declared.state.State.{State}}, proofs.Fitting.{stands-valid}}
use Rattle.rm_machine.proofs.Threads.{online-parts, thread-in}
use Rattle.rm_piece.specs.Valid.{IsPiece}
use Rattle.rm_redo.specs.{Logs.{Logs}, Online.{IsThread}, declared.online.ThreadLog.{ThreadLog}}
use Rattle.rm_session.specs.Adding.{part_of_file, part_of_thread}

-- what stands in place is valid as a piece
pub file-valid : (s : State) → IsSound s → (k : ℕ) (x : File) → slice_get s.instance.place k ≡ Some (Some x) → IsPiece (placed_piece (ledger s).base.dbid (counted s x))
file-valid s sound k x at = (stands-valid s sound k x at).valid

-- What a part is of

pub data IsPartOf (s : State) : SitePart → Type 0 where
  of_file : (k : ℕ) (x : File) → slice_get s.instance.place k ≡ Some (Some x) → IsPartOf s (part_of_file s (k + 1) x)
  of_thread : (t : ℕ) → IsThread s.instance.logs t → is_lost s.instance.logs t ≡ false → IsPartOf s (part_of_thread s t)

-- the parts that are made of these things, under numbers from n on
abbrev made_from : {X : Type 0} → (ℕ → X → Option SitePart) → ℕ → List X → List SitePart
made_from make n [] = []
made_from make n (x ∷ xs) = cons_option (make n x) (made_from make (n + 1) xs)

abbrev of_place : State → ℕ → Option File → Option SitePart
of_place s f o = option_map (part_of_file s f) o

abbrev of_log : State → ℕ → ThreadLog → Option SitePart
of_log s t l = cond (l.is_there && not l.is_lost) (Some (part_of_thread s t)) None

files-made : (s : State) (f : ℕ) (place : List (Option File)) → file_parts s f place ≡ made_from (of_place s) f place
files-made s f [] = refl
files-made s f (None ∷ place) = files-made s (f + 1) place
files-made s f (Some x ∷ place) = ap (λ ps. part_of_file s f x ∷ ps) (files-made s (f + 1) place)

logs-made : (s : State) (t : ℕ) (ls : List ThreadLog) → log_parts s t ls ≡ made_from (of_log s) t ls
logs-made s t [] = refl
logs-made s t (l ∷ ls) = one (l.is_there && not l.is_lost) ∙ ap (λ ps. cons_option (of_log s t l) ps) (logs-made s (t + 1) ls)
  where
    one : (b : Bool) → cond b (part_of_thread s t ∷ []) [] ++ log_parts s (t + 1) ls ≡ cons_option (cond b (Some (part_of_thread s t)) None) (log_parts s (t + 1) ls)
    one true = refl
    one false = refl

module _ {X : Type 0} (make : ℕ → X → Option SitePart) where
  -- a part is made of a thing that stands at a place
  record IsFrom (n : ℕ) (xs : List X) (p : SitePart) : Type 0 where
    pub at : ℕ
    pub item : X
    pub stands : slice_get xs at ≡ Some item
    pub is : make (n + at) item ≡ Some p

  from : (n : ℕ) (xs : List X) (p : SitePart) → Contains (made_from make n xs) p → IsFrom n xs p
  from n [] p has = absurd (none-in p has)
  from n (x ∷ xs) p has = decide (make n x) refl (λ rest. later (from (n + 1) xs p rest)) has
    where
      later : IsFrom (n + 1) xs p → IsFrom n (x ∷ xs) p
      later it =
          let next : n + suc it.at ≡ n + 1 + it.at = omega arith in
          record { at = suc it.at; item = it.item; stands = it.stands; is = ap (λ k. make k it.item) next ∙ it.is }

      decide : (o : Option SitePart) → make n x ≡ o → (Contains (made_from make (n + 1) xs) p → IsFrom n (x ∷ xs) p) → Contains (cons_option o (made_from make (n + 1) xs)) p → IsFrom n (x ∷ xs) p
      decide None is behind-it has = behind-it has
      decide (Some q) is behind-it has = elim (first-or-rest q (made_from make (n + 1) xs) p has) [
        | inl same ↦ let here : n + 0 ≡ n = omega arith in record { at = 0; item = x; stands = refl; is = ap (λ k. make k x) here ∙ is ∙ ap Some same }
        | inr rest ↦ behind-it rest
      ]

  -- and of each thing of which one is made it is there
  held : (n : ℕ) (xs : List X) (k : ℕ) (x : X) (p : SitePart) → slice_get xs k ≡ Some x → make (n + k) x ≡ Some p → Contains (made_from make n xs) p
  held n [] k x p at is = absurd cc
  held n (y ∷ ys) zero x p at is =
      let same : x ≡ y = (let both : Some y ≡ Some x = at in cc) in
      let here : n ≡ n + 0 = omega arith in
      coe 1 0 (i. Contains (cons_option ((ap (λ m. make m y) here ∙ ap (make (n + 0)) (sym same) ∙ is) i) (made_from make (n + 1) ys)) p) (in-front p (made_from make (n + 1) ys))
  held n (y ∷ ys) (suc k) x p at is = let next : n + 1 + k ≡ n + suc k = omega arith in skip (make n y) (held (n + 1) ys k x p at (ap (λ m. make m x) next ∙ is))
    where
      skip : (o : Option SitePart) → Contains (made_from make (n + 1) ys) p → Contains (cons_option o (made_from make (n + 1) ys)) p
      skip None rest = rest
      skip (Some q) rest = behind q (made_from make (n + 1) ys) p rest

  -- parts of things of other numbers are apart
  apart : (R : SitePart → SitePart → Type 0) → ((n m : ℕ) (x y : X) (p q : SitePart) → n < m → make n x ≡ Some p → make m y ≡ Some q → R p q) → (n : ℕ) (xs : List X) → AllPairs R (made_from make n xs)
  apart R each n [] = λ i j d less inside. absurd (omega (arith, inside))
  apart R each n (x ∷ xs) = decide (make n x) refl (apart R each (n + 1) xs)
    where
      decide : (o : Option SitePart) → make n x ≡ o → AllPairs R (made_from make (n + 1) xs) → AllPairs R (cons_option o (made_from make (n + 1) xs))
      decide None is rest = rest
      decide (Some p) is rest =
          AllPairs-cons R p (made_from make (n + 1) xs)
          (each-in (R p) (made_from make (n + 1) xs) (λ q has. let it = from (n + 1) xs q has in each n (n + 1 + it.at) x it.item p q (omega arith) is it.is)) rest

  few : (n : ℕ) (xs : List X) → length (made_from make n xs) ≤ length xs
  few n [] = omega arith
  few n (x ∷ xs) = decide (make n x) (few (n + 1) xs)
    where
      decide : (o : Option SitePart) → length (made_from make (n + 1) xs) ≤ length xs → length (cons_option o (made_from make (n + 1) xs)) ≤ suc (length xs)
      decide None rest = omega (arith, rest)
      decide (Some p) rest = omega (arith, rest)

of-present : (s : State) (f : ℕ) (o : Option File) (p : SitePart) → of_place s f o ≡ Some p → (x : File) × (o ≡ Some x) × (part_of_file s f x ≡ p)
of-present s f None p is = absurd cc
of-present s f (Some x) p is = (x, refl, (let both : Some (part_of_file s f x) ≡ Some p = is in cc))

of-kept : (b : Bool) (q p : SitePart) → cond b (Some q) None ≡ Some p → (b ≡ true) × (q ≡ p)
of-kept true q p is = (refl, (let both : Some q ≡ Some p = is in cc))
of-kept false q p is = absurd cc

-- the online log of a thread, as what stands at its place
pub is-online : (logs : Logs) (k : ℕ) (l : ThreadLog) → slice_get logs.threads k ≡ Some l → is_online logs (k + 1) ≡ (l.is_there && not l.is_lost)
is-online logs k l at =
    let back : k + 1 - 1 ≡ k = omega arith in
    let here : slice_get logs.threads (k + 1 - 1) ≡ Some l = ap (slice_get logs.threads) back ∙ at in
    λ i. option_map_or (λ (m : ThreadLog). m.is_there) (here i) false && not (option_map_or (λ (m : ThreadLog). m.is_lost) (here i) false)

-- the parts are those of both
abbrev of_files : State → List SitePart
of_files s = made_from (of_place s) 1 s.instance.place

abbrev of_logs : State → List SitePart
of_logs s = made_from (of_log s) 1 s.instance.logs.threads

parts-made : (s : State) → parts_of s ≡ of_files s ++ of_logs s
parts-made s = λ i. files-made s 1 s.instance.place i ++ logs-made s 1 s.instance.logs.threads i

pub part-of : (s : State) → IsSound s → (p : SitePart) → Contains (parts_of s) p → IsPartOf s p
part-of s sound p has = elim (Contains-append_cases (of_files s) (of_logs s) p (subst (λ ps. Contains ps p) (parts-made s) has)) [
  | inl file ↦
      let it = from (of_place s) 1 s.instance.place p file in
      let one = of-present s (1 + it.at) it.item p it.is in
      let same : it.at + 1 ≡ 1 + it.at = omega arith in
      subst (IsPartOf s) (ap (λ n. part_of_file s n one.0) same ∙ one.2) (of_file it.at one.0 (it.stands ∙ ap Some one.1))
  | inr thread ↦
      let it = from (of_log s) 1 s.instance.logs.threads p thread in
      let one = of-kept (it.item.is_there && not it.item.is_lost) (part_of_thread s (1 + it.at)) p it.is in
      let both = online-parts s.instance.logs (it.at + 1) (is-online s.instance.logs it.at it.item it.stands ∙ one.0) in
      let same : it.at + 1 ≡ 1 + it.at = omega arith in
      subst (IsPartOf s) (ap (part_of_thread s) same ∙ one.1) (of_thread (it.at + 1) (thread-in s.instance.logs (it.at + 1) (omega arith) both.0) both.1)
]

-- and each of these is a part

pub file-in : (s : State) (k : ℕ) (x : File) → slice_get s.instance.place k ≡ Some (Some x) → Contains (parts_of s) (part_of_file s (k + 1) x)
file-in s k x at =
    let same : k + 1 ≡ 1 + k = omega arith in
    coe 1 0 (i. Contains (parts-made s i) (part_of_file s (same i) x))
    (Contains-append_left (of_files s) (of_logs s) (part_of_file s (1 + k) x) (held (of_place s) 1 s.instance.place k (Some x) (part_of_file s (1 + k) x) at refl))

pub log-in : (s : State) (k : ℕ) (l : ThreadLog) → slice_get s.instance.logs.threads k ≡ Some l → (l.is_there && not l.is_lost) ≡ true → Contains (parts_of s) (part_of_thread s (k + 1))
log-in s k l at found =
    let same : k + 1 ≡ 1 + k = omega arith in
    let made : of_log s (1 + k) l ≡ Some (part_of_thread s (1 + k)) = ap (λ b. cond b (Some (part_of_thread s (1 + k))) None) found in
    coe 1 0 (i. Contains (parts-made s i) (part_of_thread s (same i)))
    (Contains-append_right (of_files s) (of_logs s) (part_of_thread s (1 + k)) (held (of_log s) 1 s.instance.logs.threads k l (part_of_thread s (1 + k)) at made))

-- No two parts are of the same thing

abbrev pub IsOther : SitePart → SitePart → Type 0
IsOther p q = p.file ≡ q.file → p.thread ≢ q.thread

of-number : (s : State) (f : ℕ) (o : Option File) (p : SitePart) → of_place s f o ≡ Some p → f ≡ p.file
of-number s f o p is = ap (λ (a : SitePart). a.file) (of-present s f o p is).2

of-thread : (s : State) (t : ℕ) (l : ThreadLog) (p : SitePart) → of_log s t l ≡ Some p → (0 ≡ p.file) × (t ≡ p.thread)
of-thread s t l p is = let same = (of-kept (l.is_there && not l.is_lost) (part_of_thread s t) p is).1 in (ap (λ (a : SitePart). a.file) same, ap (λ (a : SitePart). a.thread) same)

pub parts-apart : (s : State) → AllPairs IsOther (parts_of s)
parts-apart s =
    subst (AllPairs IsOther) (sym (parts-made s))
    (pairs-append IsOther (of_files s) (of_logs s)
    (apart (of_place s) IsOther (λ n m x y p q less one two same. absurd (omega (arith, less, same, of-number s n x p one, of-number s m y q two))) 1 s.instance.place)
    (apart (of_log s) IsOther (λ n m x y p q less one two same thread. absurd (omega (arith, less, thread, (of-thread s n x p one).1, (of-thread s m y q two).1))) 1 s.instance.logs.threads)
    (λ p q one two same.
    let file = from (of_place s) 1 s.instance.place p one in
    let thread = from (of_log s) 1 s.instance.logs.threads q two in
    absurd (omega (arith, same, of-number s (1 + file.at) file.item p file.is, (of-thread s (1 + thread.at) thread.item q thread.is).0))))

-- How many there are
pub parts-few : (s : State) → IsSound s → length (parts_of s) ≤ 68
parts-few s sound =
    let files = few (of_place s) 1 s.instance.place in
    let logs = few (of_log s) 1 s.instance.logs.threads in
    subst (λ (ps : List SitePart). length ps ≤ 68) (sym (parts-made s))
    (omega (arith, length-append (of_files s) (of_logs s), files, logs, sound.place.many, sound.catalog.ledger.datafiles.few, sound.logs.four))
