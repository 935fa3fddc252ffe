-- The state goes along with the live database: after each event its database is the live one.
use Rattle.std.specs.{List.{filter_map}, Option.{option_map, option_map_or}}
use Rattle.std.proofs.Common.{◌≡◌, ◌≢◌, ◌<◌, ◌≤◌, ◌+◌, ◌-◌, ◌∙◌, ◌==◌, inl, inr, ℕ, zero, suc, List, [], ◌∷◌, Option, Some, None, Ok, Err, true, false, is_some, cond, refl, ap, sym, subst, arith, find, length, slice_get, slice_set, slice_index_or}
use Rattle.std.proofs.lemmas.Bool.{eq-eqb, ne_eqb}
use Rattle.rm_base.{specs.declared.block.{Block.{Block}, Row.{Row}}, proofs.Slots.{get-index, get-set, index-get}}
use Rattle.rm_blocks.specs.File.{File, put}
use Rattle.rm_history.{specs.Tree.{IsThere}, proofs.Ends.{IsThere-with_end, end_of-with_end}}
use Rattle.rm_live.specs.History.{IsLegal, IsRight, after, fold_of, with_write as with_live_write}
use Rattle.rm_live.specs.{Parts.{Parts, refusal_by, refusal_of, row_at, with_put}, declared.history.Answer.{Answer}}
use Rattle.rm_live.specs.declared.history.{Answer.TheVariants.{Found, Mended, Wrote}, Call.{Call, TheVariants.{Mend, Read, Write}}}
use Rattle.rm_live.specs.declared.history.Event.{Event}
use Rattle.rm_redo.{specs.Online.{thread_records, with_change}, proofs.Logs.{inc-with_change}}
use Rattle.rm_track.specs.Bitmaps.{mark_at}
use Rattle.rm_machine.specs.{Sound.{IsSound}, State.{current_of, now_of, placed, tree}, Write.{change_of, with_write}}
use Rattle.rm_machine.specs.{Events.{after_event, after_events, opening, standing_in, write_form}, declared.state.State.{State}}
use Rattle.rm_machine.proofs.Places.{placed-is}

-- what stands in these places
abbrev pub present : List (Option File) → List File
present place = filter_map (λ o. o) place

-- the first place is that of datafile n + 1
abbrev pub AreFrom : ℕ → List (Option File) → Type 0
AreFrom n place = (k : ℕ) (x : File) → slice_get place k ≡ Some (Some x) → x.file ≡ n + k + 1

from-next : (n : ℕ) (o : Option File) (place : List (Option File)) → AreFrom n (o ∷ place) → AreFrom (n + 1) place
from-next n o place are k x is = let e = are (suc k) x is in omega (arith, e)

-- A number before the first place

find-below : (place : List (Option File)) (n f : ℕ) → AreFrom n place → f ≤ n → find (λ (x : File). x.file == f) (present place) ≡ None
find-below [] n f are low = refl
find-below (None ∷ place) n f are low = find-below place (n + 1) f (from-next n None place are) (omega (arith, low))
find-below (Some x ∷ place) n f are low =
    let number = are 0 x refl in
    ap (λ b. cond b (Some x) (find (λ (y : File). y.file == f) (present place))) (ne_eqb x.file f (λ e. omega (arith, e, number, low)))
    ∙ find-below place (n + 1) f (from-next n (Some x) place are) (omega (arith, low))

put-below : (place : List (Option File)) (n f : ℕ) (row : Row) → AreFrom n place → f ≤ n → with_put (present place) f row ≡ present place
put-below [] n f row are low = refl
put-below (None ∷ place) n f row are low = put-below place (n + 1) f row (from-next n None place are) (omega (arith, low))
put-below (Some x ∷ place) n f row are low =
    let number = are 0 x refl in
    ap (λ t. cond t (put x row ∷ present place) (x ∷ with_put (present place) f row)) (ne_eqb x.file f (λ e. omega (arith, e, number, low)))
    ∙ ap (λ xs. x ∷ xs) (put-below place (n + 1) f row (from-next n (Some x) place are) (omega (arith, low)))

-- The number of the m-th place after it

find-at : (place : List (Option File)) (n m : ℕ) → AreFrom n place → find (λ (x : File). x.file == n + m + 1) (present place) ≡ slice_index_or place m None
find-at [] n m are = refl
find-at (None ∷ place) n zero are = find-below place (n + 1) (n + 0 + 1) (from-next n None place are) (omega arith)
find-at (None ∷ place) n (suc m) are =
    let same : n + suc m + 1 ≡ n + 1 + m + 1 = omega arith in
    ap (λ f. find (λ (y : File). y.file == f) (present place)) same ∙ find-at place (n + 1) m (from-next n None place are)
find-at (Some x ∷ place) n zero are =
    ap (λ b. cond b (Some x) (find (λ (y : File). y.file == n + 0 + 1) (present place))) (eq-eqb x.file (n + 0 + 1) (are 0 x refl))
find-at (Some x ∷ place) n (suc m) are =
    let number = are 0 x refl in
    let same : n + suc m + 1 ≡ n + 1 + m + 1 = omega arith in
    ap (λ b. cond b (Some x) (find (λ (y : File). y.file == n + suc m + 1) (present place))) (ne_eqb x.file (n + suc m + 1) (λ e. omega (arith, e, number)))
    ∙ ap (λ f. find (λ (y : File). y.file == f) (present place)) same ∙ find-at place (n + 1) m (from-next n (Some x) place are)

-- a row that is put into what stands in place is put into its place
abbrev set_at : List (Option File) → ℕ → Row → List (Option File)
set_at place m row = slice_set place m (option_map (λ x. put x row) (slice_index_or place m None))

put-at : (place : List (Option File)) (n m : ℕ) (row : Row) → AreFrom n place → with_put (present place) (n + m + 1) row ≡ present (set_at place m row)
put-at [] n m row are = refl
put-at (None ∷ place) n zero row are = put-below place (n + 1) (n + 0 + 1) row (from-next n None place are) (omega arith)
put-at (None ∷ place) n (suc m) row are =
    let same : n + suc m + 1 ≡ n + 1 + m + 1 = omega arith in
    ap (λ f. with_put (present place) f row) same ∙ put-at place (n + 1) m row (from-next n None place are)
put-at (Some x ∷ place) n zero row are =
    ap (λ t. cond t (put x row ∷ present place) (x ∷ with_put (present place) (n + 0 + 1) row)) (eq-eqb x.file (n + 0 + 1) (are 0 x refl))
put-at (Some x ∷ place) n (suc m) row are =
    let number = are 0 x refl in
    let same : n + suc m + 1 ≡ n + 1 + m + 1 = omega arith in
    ap (λ t. cond t (put x row ∷ present place) (x ∷ with_put (present place) (n + suc m + 1) row)) (ne_eqb x.file (n + suc m + 1) (λ e. omega (arith, e, number)))
    ∙ ap (λ xs. x ∷ xs) (ap (λ f. with_put (present place) f row) same ∙ put-at place (n + 1) m row (from-next n (Some x) place are))

-- what the live database needs to be that of the state
pub record GoesAlong (s : State) : Type 0 where
  pub there : IsThere (tree s) (current_of s)
  pub inc : s.instance.logs.inc ≡ current_of s
  pub numbered : (k : ℕ) (x : File) → slice_get s.instance.place k ≡ Some (Some x) → x.file ≡ k + 1

-- a sound, open database does
pub goes-along : (s : State) → IsSound s → s.instance.is_open ≡ true → GoesAlong s
goes-along s sound opened = record {
  there = sound.catalog.ledger.current;
  inc = (sound.in_open opened).inc;
  numbered = λ k x is. (placed-is s k x sound.place (index-get s.instance.place k x is)).file;
}

put-by : (o : Option File) (row : Row) (x : File) → option_map (λ y. put y row) o ≡ Some x → (y : File) × (o ≡ Some y) × (y.file ≡ x.file)
put-by None row x is = absurd (cc)
put-by (Some y) row x is = (y, refl, (let same : put y row ≡ x = cc is in ap (λ (z : File). z.file) same))

-- a row in place leaves the numbers
numbered-put : (s : State) (f : ℕ) (row : Row) → GoesAlong s → (k : ℕ) (x : File) → slice_get (set_at s.instance.place (f - 1) row) k ≡ Some (Some x) → x.file ≡ k + 1
numbered-put s f row goes k x is = elim (get-set s.instance.place (f - 1) k (option_map (λ y. put y row) (placed s f)) (Some x) is) [
  | inl one ↦
      let by = put-by (placed s f) row x one.1 in
      omega (arith, goes.numbered (f - 1) by.0 (get-index s.instance.place (f - 1) by.0 by.1), by.2, one.0)
  | inr other ↦ goes.numbered k x other.1
]

goes-with_write : (s : State) (t f b : ℕ) (content : Block) → GoesAlong s → GoesAlong (with_write s (write_form t f b content))
goes-with_write s t f b content goes = record {
  there = IsThere-with_end (tree s) (current_of s) (now_of s + 1) (current_of s) goes.there;
  inc = inc-with_change s.instance.logs (change_of s (write_form t f b content)) ∙ goes.inc;
  numbered = numbered-put s f (record { block = b; version = now_of s; content = content }) goes;
}

-- an event keeps it
pub goes-after : (s : State) (c : Call) (a : Answer) → GoesAlong s → GoesAlong (after_event s c a)
goes-after s (Read f b) a goes = goes
goes-after s (Write t f b content) (Found row) goes = goes
goes-after s (Write t f b content) (Wrote (Ok scn)) goes = goes-with_write s t f b content goes
goes-after s (Write t f b content) (Wrote (Err fault)) goes = goes
goes-after s (Write t f b content) (Mended made) goes = goes
goes-after s (Mend f row) (Found found) goes = goes
goes-after s (Mend f row) (Wrote w) goes = goes
goes-after s (Mend f row) (Mended true) goes = record { there = goes.there; inc = goes.inc; numbered = numbered-put s f row goes }
goes-after s (Mend f row) (Mended false) goes = goes

numbers-from : (s : State) → GoesAlong s → AreFrom 0 s.instance.place
numbers-from s goes k x is = let e = goes.numbered k x is in omega (arith, e)

-- no datafile has the number 0
some-number : (s : State) (f b : ℕ) → GoesAlong s → row_at (standing_in s) f b ≢ None → 0 < f
some-number s zero b goes some =
    absurd (some (ap (λ o. option_map_or (λ (x : File). slice_get x.rows b) o None) (find-below s.instance.place 0 0 (numbers-from s goes) (omega arith))))
some-number s (suc m) b goes some = omega arith

-- a row that is put into its place is put into the live database
files-with_put : (s : State) (f : ℕ) (row : Row) → GoesAlong s → 0 < f → present (set_at s.instance.place (f - 1) row) ≡ with_put (standing_in s) f row
files-with_put s zero row goes some = absurd (omega (arith, some))
files-with_put s (suc m) row goes some =
    let place : suc m - 1 ≡ m = omega arith in
    let number : 0 + m + 1 ≡ suc m = omega arith in
    ap (λ k. present (set_at s.instance.place k row)) place
    ∙ sym (put-at s.instance.place 0 m row (numbers-from s goes))
    ∙ ap (λ f. with_put (present s.instance.place) f row) number

opening-with_write : (s : State) (t f b scn : ℕ) (content : Block) → GoesAlong s → refusal_of (opening s) t f b ≡ None → scn ≡ now_of s → opening (with_write s (write_form t f b content)) ≡ with_live_write (opening s) t f b content scn
opening-with_write s t f b scn content goes accepted at =
    let logs = with_change s.instance.logs (change_of s (write_form t f b content)) in
    let of_both : ℕ → List File → Parts = λ now files. record { inc = current_of s; now = now; files = files; logs = logs; tracker = mark_at s.instance.tracker f b } in
    let row : Row = record { block = b; version = now_of s; content = content } in
    let number = some-number s f b goes (λ none. absurd (let clash = ap (λ o. refusal_by o (length (thread_records s.instance.logs t)) (now_of s)) (sym none) ∙ accepted in cc clash)) in
    ap (λ n. of_both n (standing_in (with_write s (write_form t f b content)))) (end_of-with_end (tree s) (current_of s) (now_of s + 1) goes.there)
    ∙ ap (of_both (now_of s + 1)) (files-with_put s f row goes number)
    ∙ ap (with_live_write (opening s) t f b content) (sym at)

-- after an answer that is right the state's database is the live one
pub opening-after : (s : State) (c : Call) (a : Answer) → GoesAlong s → IsRight (opening s) c a → opening (after_event s c a) ≡ after (opening s) c a
opening-after s (Read f b) a goes right = refl
opening-after s (Write t f b content) (Found row) goes right = refl
opening-after s (Write t f b content) (Wrote (Ok scn)) goes right = opening-with_write s t f b scn content goes right.0 right.1
opening-after s (Write t f b content) (Wrote (Err fault)) goes right = refl
opening-after s (Write t f b content) (Mended made) goes right = refl
opening-after s (Mend f row) (Found found) goes right = refl
opening-after s (Mend f row) (Wrote w) goes right = refl
opening-after s (Mend f row) (Mended true) goes right =
    let number = some-number s f row.block goes (λ none. absurd (let clash = right.0 ∙ ap is_some none in cc clash)) in
    ap (λ (files : List File). record (opening s) { files = files }) (files-with_put s f row goes number)
opening-after s (Mend f row) (Mended false) goes right = refl

-- and so after all events
pub opening-events : (s : State) (es : List Event) → GoesAlong s → IsLegal (opening s) es → opening (after_events s es) ≡ fold_of (opening s) es
opening-events s [] goes legal = refl
opening-events s (e ∷ es) goes legal =
    let one = opening-after s e.call e.answer goes legal.0 in
    opening-events (after_event s e.call e.answer) es (goes-after s e.call e.answer goes) (subst (λ p. IsLegal p es) (sym one) legal.1)
    ∙ ap (λ p. fold_of p es) one
