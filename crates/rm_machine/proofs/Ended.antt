-- What the events leave of the state: its mode, its point and its places, and another end of the current incarnation, where they have a write.
use Rattle.std.proofs.Common.{◌≡◌, ◌<◌, ◌≤◌, ◌+◌, ◌-◌, ◌∙◌, ◌++◌, ◌⊎◌, inl, inr, nat_lt, Result, ℕ, suc, List, [], ◌∷◌, Ok, Err, Bool, true, false, cond, refl, ap, sym, arith, length, length-set, append-nil, map, set-set, slice_set}
use Rattle.std.proofs.lemmas.Bool.{le-ltb, lt-ltb}
use Rattle.rm_base.specs.declared.block.Mark.{Mark}
use Rattle.rm_history.specs.{Tree.{IsThere, end_of, parent_of, reset_of, with_end}, declared.tree.Incarnation.{Incarnation}}
use Rattle.rm_history.proofs.Ends.{end_of-with_end, parent_of-with_end, reset_of-with_end}
use Rattle.rm_live.specs.{Ruled.{total}, declared.history.{Answer.{Answer, TheVariants.{Found, Mended, Wrote}}, Call.{Call}}}
use Rattle.rm_live.specs.declared.history.{Call.TheVariants.{Mend, Read, Write}, Event.{Event}, LiveFault.{LiveFault}}
use Rattle.rm_catalog_typed.specs.{Changes.{with_end_at}, TypedCatalog.{TypedCatalog}}
use Rattle.rm_machine.specs.{Marks.{last_marked, mark_now, marks_before, one_further}, State.{current_of, ledger, now_of, tree}}
use Rattle.rm_machine.specs.{Events.{after_event, after_events}, Running.{count_writes, once, risen}, declared.state.State.{State}}
use Rattle.rm_machine.proofs.Following.{GoesAlong, goes-after}
use Rattle.rm_channel.{specs.{Jobs.{Deed, wrote, wrote_of}, Made.{deed}, declared.jobs.WriteJob.{WriteJob}}, proofs.Mine.{total-append}}

-- what runs, but for its datafiles and logs
pub record IsAfter (s t : State) : Type 0 where
  pub mode : t.instance.is_open ≡ s.instance.is_open
  pub point : t.instance.point ≡ s.instance.point
  pub damaged : t.instance.damaged ≡ s.instance.damaged
  pub many : length t.instance.place ≡ length s.instance.place

after-one : (s : State) (c : Call) (a : Answer) → IsAfter s (after_event s c a)
after-one s (Read f b) a = record { mode = refl; point = refl; damaged = refl; many = refl }
after-one s (Write t f b content) (Found row) = record { mode = refl; point = refl; damaged = refl; many = refl }
after-one s (Write t f b content) (Wrote (Ok scn)) = record { mode = refl; point = refl; damaged = refl; many = length-set s.instance.place (f - 1) _ }
after-one s (Write t f b content) (Wrote (Err fault)) = record { mode = refl; point = refl; damaged = refl; many = refl }
after-one s (Write t f b content) (Mended made) = record { mode = refl; point = refl; damaged = refl; many = refl }
after-one s (Mend f row) (Found found) = record { mode = refl; point = refl; damaged = refl; many = refl }
after-one s (Mend f row) (Wrote w) = record { mode = refl; point = refl; damaged = refl; many = refl }
after-one s (Mend f row) (Mended true) = record { mode = refl; point = refl; damaged = refl; many = length-set s.instance.place (f - 1) _ }
after-one s (Mend f row) (Mended false) = record { mode = refl; point = refl; damaged = refl; many = refl }

pub after-all : (s : State) (es : List Event) → IsAfter s (after_events s es)
after-all s [] = record { mode = refl; point = refl; damaged = refl; many = refl }
after-all s (e ∷ es) =
    let one = after-one s e.call e.answer in
    let more = after-all (after_event s e.call e.answer) es in
    record { mode = more.mode ∙ one.mode; point = more.point ∙ one.point; damaged = more.damaged ∙ one.damaged; many = more.many ∙ one.many }

-- another end twice is the later one
end-twice : (tree : List Incarnation) (i a b : ℕ) → IsThere tree i → with_end (with_end tree i a) i b ≡ with_end tree i b
end-twice tree i a b there =
    let new : ℕ → Incarnation = λ end. record { parent = parent_of tree i; reset = reset_of tree i; end = end } in
    (λ j. slice_set (with_end tree i a) (i - 1) (record { parent = parent_of-with_end tree i a i there j; reset = reset_of-with_end tree i a i there j; end = b }))
    ∙ set-set tree (i - 1) (new a) (new b)

end_at-twice : (r : TypedCatalog) (i a b : ℕ) → IsThere r.ledger.tree i → with_end_at (with_end_at r i a) i b ≡ with_end_at r i b
end_at-twice r i a b there =
    λ j. record r { ledger = record r.ledger { tree = end-twice r.ledger.tree i a b there j } }

-- Marks

none-due : (b : Bool) (m : Mark) → cond b (m ∷ []) [] ≡ [] → b ≡ false
none-due false m is = refl
none-due true m is = absurd (cc is)

-- without a mark before it a write leaves no mark due
quiet-marks : (s : State) → marks_before s ≡ [] → (ledger s).marks ++ marks_before s ≡ (ledger s).marks
quiet-marks s quiet = ap (λ ms. (ledger s).marks ++ ms) quiet ∙ append-nil (ledger s).marks

quiet-one : (s : State) (c : Call) (a : Answer) → marks_before s ≡ [] → marks_before (after_event s c a) ≡ []
quiet-one s (Read f b) a quiet = quiet
quiet-one s (Write t f b content) (Found row) quiet = quiet
quiet-one s (Write t f b content) (Wrote (Ok scn)) quiet =
    let q = after_event s (Write t f b content) (Wrote (Ok scn)) in
    let due = none-due (nat_lt (last_marked 0 (ledger s).marks) (ledger s).base.moment) (mark_now s) quiet in
    ap (λ b. cond b (mark_now q ∷ []) []) (ap (λ ms. nat_lt (last_marked 0 ms) (ledger s).base.moment) (quiet-marks s quiet) ∙ due)
quiet-one s (Write t f b content) (Wrote (Err fault)) quiet = quiet
quiet-one s (Write t f b content) (Mended made) quiet = quiet
quiet-one s (Mend f row) (Found found) quiet = quiet
quiet-one s (Mend f row) (Wrote w) quiet = quiet
quiet-one s (Mend f row) (Mended true) quiet = quiet
quiet-one s (Mend f row) (Mended false) quiet = quiet

quiet-further : (s : State) → marks_before s ≡ [] → one_further s ≡ with_end_at s.catalog (current_of s) (now_of s + 1)
quiet-further s quiet = λ i. with_end_at (record s.catalog { ledger = record s.catalog.ledger { marks = quiet-marks s quiet i } }) (current_of s) (now_of s + 1)

-- the catalog is as it was, or has a later end
abbrev IsEnded : State → State → Type 0
IsEnded s t = (t.catalog ≡ s.catalog) ⊎ ((now_of s < now_of t) × (t.catalog ≡ with_end_at s.catalog (current_of s) (now_of t)))

ended-then : (s q t : State) → IsThere (tree s) (current_of s) → IsEnded s q → IsEnded q t → IsEnded s t
ended-then s q t there one two =
    let now : TypedCatalog → ℕ = λ r. end_of r.ledger.tree r.ledger.base.current in
    let with_now : TypedCatalog → ℕ → TypedCatalog = λ r n. with_end_at r r.ledger.base.current n in
    elim one [
      | inl e ↦
          elim two [
            | inl f ↦ inl (f ∙ e)
            | inr f ↦ inr (omega (arith, f.0, ap now e), f.1 ∙ ap (λ r. with_now r (now_of t)) e)
          ]
      | inr e ↦
          elim two [
            | inl f ↦ inr (omega (arith, e.0, ap now f), f ∙ e.1 ∙ ap (with_end_at s.catalog (current_of s)) (sym (ap now f)))
            | inr f ↦ inr (omega (arith, e.0, f.0), f.1 ∙ ap (λ r. with_now r (now_of t)) e.1 ∙ end_at-twice s.catalog (current_of s) (now_of q) (now_of t) there)
          ]
    ]

ended-one : (s : State) (c : Call) (a : Answer) → GoesAlong s → (0 < once c → marks_before s ≡ []) → IsEnded s (after_event s c a)
ended-one s (Read f b) a goes quiet = inl refl
ended-one s (Write t f b content) (Found row) goes quiet = inl refl
ended-one s (Write t f b content) (Wrote (Ok scn)) goes quiet =
    let q = after_event s (Write t f b content) (Wrote (Ok scn)) in
    let next : now_of q ≡ now_of s + 1 = end_of-with_end (tree s) (current_of s) (now_of s + 1) goes.there in
    inr (omega (arith, next), quiet-further s (quiet (omega arith)) ∙ ap (with_end_at s.catalog (current_of s)) (sym next))
ended-one s (Write t f b content) (Wrote (Err fault)) goes quiet = inl refl
ended-one s (Write t f b content) (Mended made) goes quiet = inl refl
ended-one s (Mend f row) (Found found) goes quiet = inl refl
ended-one s (Mend f row) (Wrote w) goes quiet = inl refl
ended-one s (Mend f row) (Mended true) goes quiet = inl refl
ended-one s (Mend f row) (Mended false) goes quiet = inl refl

ended-all : (s : State) (es : List Event) → GoesAlong s → (0 < count_writes es → marks_before s ≡ []) → IsEnded s (after_events s es)
ended-all s [] goes quiet = inl refl
ended-all s (e ∷ es) goes quiet =
    ended-then s (after_event s e.call e.answer) (after_events s (e ∷ es)) goes.there
    (ended-one s e.call e.answer goes (λ some. quiet (omega (arith, some))))
    (ended-all (after_event s e.call e.answer) es (goes-after s e.call e.answer goes) (λ some. quiet-one s e.call e.answer (quiet (omega (arith, some)))))

-- so it has risen to the end that the events leave
pub risen-all : (s : State) (es : List Event) → GoesAlong s → (0 < count_writes es → marks_before s ≡ []) → risen s.catalog (now_of (after_events s es)) ≡ (after_events s es).catalog
risen-all s es goes quiet =
    let t = after_events s es in
    let chosen : Bool → TypedCatalog = λ b. cond b (with_end_at s.catalog (current_of s) (now_of t)) s.catalog in
    elim (ended-all s es goes quiet) [
      | inl e ↦
          let same : now_of t ≡ now_of s = ap (λ (r : TypedCatalog). end_of r.ledger.tree r.ledger.base.current) e in
          ap chosen (le-ltb (now_of s) (now_of t) (omega (arith, same))) ∙ sym e
      | inr e ↦ ap chosen (lt-ltb (now_of s) (now_of t) e.0) ∙ sym e.1
    ]

-- No more writes than were asked for

-- 1 for a write and its answer
abbrev pub is_once : Deed → ℕ
is_once d = once d.0

once-wrote : (t : ℕ) (ws : List WriteJob) (answers : List (Result ℕ LiveFault)) → total is_once (wrote t ws answers) ≤ length ws
once-wrote t [] answers = omega arith
once-wrote t (w ∷ ws) [] = omega arith
once-wrote t (w ∷ ws) (a ∷ answers) = let more = once-wrote t ws answers in omega (arith, more)

pub once-wrote_of : (t : ℕ) (wss : List (List WriteJob)) (answers : List (List (Result ℕ LiveFault))) → total is_once (wrote_of t wss answers) ≤ total length wss
once-wrote_of t [] answers = omega arith
once-wrote_of t (ws ∷ wss) [] = omega arith
once-wrote_of t (ws ∷ wss) (one ∷ answers) =
    omega (arith, total-append is_once (wrote t ws one) (wrote_of (suc t) wss answers), once-wrote t ws one, once-wrote_of (suc t) wss answers)

pub once-events : (es : List Event) → total is_once (map deed es) ≡ count_writes es
once-events [] = refl
once-events (e ∷ es) = ap (λ n. once e.call + n) (once-events es)
