-- What is in place of a duplicate of which nothing stood there, after its copies were restored: these.
use Rattle.std.specs.{Prelude.{replicate}, List.{enumerate_from, filter_map}}
use Rattle.std.proofs.Common.{◌≡◌, ◌+◌, ◌-◌, ◌∙◌, ℕ, List, [], ◌∷◌, ◌++◌, Option, Some, None, length, map, slice_set, refl, sym, ap, arith}
use Rattle.std.proofs.lemmas.List.{length-append, length-map, map-id}
use Rattle.rm_apply.specs.Restore.{backed_up}
use Rattle.rm_base.specs.Store.{Held}
use Rattle.rm_blocks.specs.File.{File}
use Rattle.rm_catalog_typed.specs.TypedCatalog.{records_of}
use Rattle.rm_dup.specs.{Copies.{as_first, copies_of, copy_as}, Entries.{catalog_of, restored as standing_copies}}
use Rattle.rm_history.specs.declared.world.World.{World}
use Rattle.rm_machine.specs.{Damage.{undamaged}, Loading.{IsLoaded, lost_instance}, Recovery.{in_place, online_logs, put_over}, Restore.{restored}, State.{at_moment, counted}}
use Rattle.rm_machine.specs.declared.state.{Instance.{Instance}, State.{State}}
use Rattle.rm_machine.proofs.Undamaged.{undamaged-none}
use Rattle.rm_tool_duplicate.proofs.First.{first-loaded, lost-logs, none-online}

-- these places are filled
abbrev filled : List File → List (Option File)
filled xs = map (λ (x : File). Some x) xs

-- the place behind those that are filled is filled
fill : (front : List File) (o : Option File) (rest : List (Option File)) (x : File)
    → slice_set (filled front ++ o ∷ rest) (length front) (Some x) ≡ filled front ++ Some x ∷ rest
fill [] o rest x = refl
fill (y ∷ ys) o rest x = ap (λ zs. Some y ∷ zs) (fill ys o rest x)

one-more : (front : List File) (x : File) (rest : List (Option File)) → filled (front ++ x ∷ []) ++ rest ≡ filled front ++ Some x ∷ rest
one-more [] x rest = refl
one-more (y ∷ ys) x rest = ap (λ zs. Some y ∷ zs) (one-more ys x rest)

longer : (front : List File) (x : File) → length (front ++ x ∷ []) ≡ length front + 1
longer front x = let both = length-append front (x ∷ []) in omega (arith, both)

module _ (dbid s : ℕ) where
  -- the copies of these datafiles, numbered from k on, as they stand in place
  abbrev backs : ℕ → List File → List File
  backs k xs = map backed_up (map (copy_as dbid s) (enumerate_from k xs))

  fill-all : (front xs : List File)
      → put_over (backs (length front + 1) xs) (filled front ++ replicate (length xs) None) ≡ filled front ++ filled (backs (length front + 1) xs)
  fill-all front [] = refl
  fill-all front (x ∷ xs) =
      let y = backed_up (copy_as dbid s (length front + 1, x)) in
      let rest : List (Option File) = replicate (length xs) None in
      let later : List File = backs (length front + 1 + 1) xs in
      let next : length (front ++ y ∷ []) + 1 ≡ length front + 1 + 1 = ap (λ n. n + 1) (longer front y) in
      let back : length front + 1 - 1 ≡ length front = omega arith in
      ap (λ n. put_over later (slice_set (filled front ++ None ∷ rest) n (Some y))) back
      ∙ ap (put_over later) (fill front None rest y ∙ sym (one-more front y rest))
      ∙ ap (λ n. put_over (backs n xs) (filled (front ++ y ∷ []) ++ rest)) (sym next)
      ∙ fill-all (front ++ y ∷ []) xs
      ∙ ap (λ n. filled (front ++ y ∷ []) ++ filled (backs n xs)) next
      ∙ one-more front y (filled later)

-- all that fill the places are there
all-filled : (xs : List File) → filter_map (λ (o : Option File). o) (filled xs) ≡ xs
all-filled [] = refl
all-filled (x ∷ xs) = ap (λ ys. x ∷ ys) (all-filled xs)

module _ (held : Held) (s : State) (w : World) (dbid moment at : ℕ) (files : List File)
    (same : records_of s.catalog ≡ records_of (catalog_of w dbid moment at files)) (loaded : IsLoaded held s) (now : ℕ) where
  abbrev after : Instance → State
  after i = restored (at_moment (record { catalog = catalog_of w dbid moment at files; instance = i }) now) (map backed_up (copies_of dbid at files))

  lost-filled : in_place (after (lost_instance (catalog_of w dbid moment at files).ledger)) ≡ standing_copies (copies_of dbid at files)
  lost-filled =
      let t : State = after (lost_instance (catalog_of w dbid moment at files).ledger) in
      let backs_of : List File = map backed_up (copies_of dbid at files) in
      let places : put_over backs_of (replicate (length (catalog_of w dbid moment at files).ledger.files) None) ≡ filled backs_of =
      ap (λ n. put_over backs_of (replicate n None)) (length-map files (λ (x : File). as_first w x.file)) ∙ fill-all dbid at [] files in
      let stand : map (counted t) (filter_map (λ (o : Option File). o) (undamaged [] 1 t.instance.place)) ≡ backs_of =
      map-id (filter_map (λ (o : Option File). o) (undamaged [] 1 t.instance.place))
      ∙ ap (λ (ps : List (Option File)). filter_map (λ (o : Option File). o) ps) (undamaged-none 1 t.instance.place ∙ places)
      ∙ all-filled backs_of in
      let logs : online_logs t 1 4 ≡ [] = none-online t 1 4 (lost-logs (catalog_of w dbid moment at files)) in
      λ j. record { files = stand j; logs = logs j }

  pub restored-place : in_place (restored (at_moment s now) (map backed_up (copies_of dbid at files))) ≡ standing_copies (copies_of dbid at files)
  restored-place =
      let first = first-loaded held s (catalog_of w dbid moment at files) same refl loaded in
      let instance : s.instance ≡ lost_instance (catalog_of w dbid moment at files).ledger = first.1 ∙ ap (λ c. lost_instance c.ledger) first.0 in
      (λ j. in_place (restored (at_moment (record { catalog = first.0 j; instance = instance j }) now) (map backed_up (copies_of dbid at files)))) ∙ lost-filled
