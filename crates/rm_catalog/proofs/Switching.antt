-- The switches of the records, one by one.
use Rattle.std.specs.{Prelude.{IfSome, IsSomeAnd}, List.{cons_option}, Option.{option_map, option_map_or}}
use Rattle.std.proofs.Common.{◌≡◌, ℕ, zero, suc, ◌+◌, ◌-◌, ◌<◌, ◌≤◌, ◌&&◌, nat_le, eqb, Bool, false, List, [], ◌∷◌, ◌++◌, get_or, length, take, Option, Some, None, refl, ap, sym, subst, ◌∙◌, arith, Contains, option_to_list}
use Rattle.std.proofs.lemmas.{List.{append-nil, take_more, Elements.{filter_map-append}}, Option.{same_Some}}
use Rattle.rm_catalog.specs.{Keys.{incarnation, switch, switch_in}, Objects.{owner_in}, Rules.{IsCatalog}}
use Rattle.rm_catalog.specs.Switches.{IsAt, SwitchRule, applies_in, began_with, last_in, switch_of, switches, told_by, was_enabled}
use Rattle.rm_catalog.specs.{Trees.{nodes}, declared.record.{IncarnationEntry.{IncarnationEntry}, SwitchEntry.{SwitchEntry}}}
use Rattle.rm_catalog.{specs.declared.record.Record.{Record}, proofs.Numbering.{incarnation-rule, obeys}}
use Rattle.rm_catalog.proofs.Telling.{record-told, told-record}
use Rattle.rm_catalog.specs.declared.record.Record.TheVariants as records
use Rattle.rm_history.specs.{Tree.{owner}, Threads.{after_switch, applies, is_enabled, is_on, last_switch}}
use Rattle.rm_history.{specs.declared.{tree.Incarnation.{Incarnation}, world.Switch.{Switch}}, proofs.Enabled.{last-push, last-same}}

pub is-switch : (r : Record) (x : SwitchEntry) → switch_in r ≡ Some x → r ≡ records.Switch x
is-switch = elim [
  | records.Switch y ↦ λ x h. ap (λ (z : SwitchEntry). records.Switch z) (same_Some y x h)
  | r ↦ λ x h. absurd cc
]

-- each switch is told by a record
pub record IsTold (rs : List Record) (x : Switch) : Type 0 where
  pub entry : SwitchEntry
  pub held : Contains rs (records.Switch entry)
  pub is : switch_of entry ≡ x

pub switch-told : (rs : List Record) (x : Switch) → Contains (switches rs) x → IsTold rs x
switch-told rs x has =
    let from = told-record told_by rs x has in
    decide from.0 from.1 (switch_in from.0) refl from.2
  where
    decide : (r : Record) → Contains rs r → (o : Option SwitchEntry) → switch_in r ≡ o → option_map switch_of o ≡ Some x → IsTold rs x
    decide r held None e told = absurd cc
    decide r held (Some y) e told = record { entry = y; held = subst (λ (z : Record). Contains rs z) (is-switch r y e) held; is = same_Some (switch_of y) x told }

pub switch-rule : (rs : List Record) (x : SwitchEntry) → IsCatalog rs → Contains rs (records.Switch x) → SwitchRule rs x
switch-rule rs x c has = (obeys rs (records.Switch x) c has).own

-- and lies at an SCN above 0
late : (rs : List Record) (x : SwitchEntry) → IsCatalog rs → IsSomeAnd (incarnation x.inc rs) (IsAt x) → 0 < x.scn
late rs x c range = decide (incarnation x.inc rs) refl range
  where
    decide : (o : Option IncarnationEntry) → incarnation x.inc rs ≡ o → IsSomeAnd o (IsAt x) → 0 < x.scn
    decide None e on = absurd on
    decide (Some i) e on =
        let own = (incarnation-rule rs x.inc i c e).range in
        let reset = on.reset in
        omega arith

pub switch-late : (rs : List Record) → IsCatalog rs → (x : Switch) → Contains (switches rs) x → 0 < x.scn
switch-late rs c x has =
    let told = switch-told rs x has in
    subst (λ (y : Switch). 0 < y.scn) told.is (late rs told.entry c (switch-rule rs told.entry c told.held).range)

-- the switches of one record more
pub switches_more : (rs : List Record) (k : ℕ) (r : Record) → k < length rs → r ≡ get_or rs k r → switches (take (k + 1) rs) ≡ switches (take k rs) ++ option_to_list (told_by r)
switches_more rs k r lt is =
    ap (λ (x : List Record). switches x) (take_more rs k r lt ∙ ap (λ (x : Record). take k rs ++ x ∷ []) (sym is)) ∙ filter_map-append told_by (take k rs) (r ∷ []) ∙ ap (λ (x : List Switch). switches (take k rs) ++ x) (one (told_by r))
  where
    one : (o : Option Switch) → cons_option o [] ≡ option_to_list o
    one None = refl
    one (Some n) = refl

pub last-told : (p : Switch → Bool) (xs : List Switch) (o : Option Switch) → last_switch p (xs ++ option_to_list o) ≡ option_map_or (λ x. after_switch p (last_switch p xs) x) o (last_switch p xs)
last-told p xs None = ap (last_switch p) (append-nil xs)
last-told p xs (Some x) = last-push p xs x

-- one number more
pub last_in-more : (n m : ℕ) (p : Switch → Bool) (rs : List Record) → m ≡ suc n → last_in m p rs ≡ option_map_or (λ x. after_switch p (last_in n p rs) (switch_of x)) (switch (suc n) rs) (last_in n p rs)
unfolding last_in
last_in-more n m p rs is = ap (λ (k : ℕ). last_in k p rs) is

pub in-step : (p : Switch → Bool) (rs : List Record) (n m : ℕ) (last : Option Switch) (o : Option SwitchEntry) (r : Option Switch) → m ≡ suc n → last ≡ last_in n p rs → o ≡ switch m rs → r ≡ option_map_or (λ x. after_switch p last (switch_of x)) o last → r ≡ last_in m p rs
in-step p rs n m last o r count was is now =
    now
    ∙ ap (λ (l : Option Switch). option_map_or (λ x. after_switch p l (switch_of x)) o l) was
    ∙ ap (λ (q : Option SwitchEntry). option_map_or (λ x. after_switch p (last_in n p rs) (switch_of x)) q (last_in n p rs)) (is ∙ ap (λ (k : ℕ). switch k rs) count)
    ∙ sym (last_in-more n m p rs count)

pub in-start : (p : Switch → Bool) (rs : List Record) → None ≡ last_in 0 p rs
unfolding last_in
in-start p rs = refl

-- the switches told so far, and one record more
pub told-step : (p : Switch → Bool) (rs : List Record) (k : ℕ) (row : Record) (last o r : Option Switch) → k < length rs → row ≡ get_or rs k row → last ≡ last_switch p (switches (take k rs)) → o ≡ told_by row → r ≡ option_map_or (λ x. after_switch p last x) o last → r ≡ last_switch p (switches (take (k + 1) rs))
told-step p rs k row last o r lt is was told now =
    now
    ∙ ap (λ (l : Option Switch). option_map_or (λ x. after_switch p l x) o l) was
    ∙ ap (λ (q : Option Switch). option_map_or (λ x. after_switch p (last_switch p (switches (take k rs))) x) q (last_switch p (switches (take k rs)))) told
    ∙ sym (last-told p (switches (take k rs)) (told_by row))
    ∙ sym (ap (last_switch p) (switches_more rs k row lt is))

pub told-late : (rs : List Record) (row : Record) (o : Option Switch) → ((x : Switch) → Contains (switches rs) x → 0 < x.scn) → Contains rs row → o ≡ told_by row → IfSome o (λ x. 0 < x.scn)
told-late rs row None late has told = tt
told-late rs row (Some x) late has told = late x (record-told told_by rs row x has (sym told))

pub enabled-by : (rs some : List Record) (tree : List Incarnation) (m g t began : ℕ) (last : Option Switch) → some ≡ rs → tree ≡ nodes rs → began ≡ began_with some → last ≡ last_switch (applies tree m g t) (switches some) → is_on began t last ≡ is_enabled (nodes rs) (began_with rs) (switches rs) m g t
unfolding is_enabled
enabled-by rs some tree m g t began last same is first found =
    ap (λ (n : ℕ). is_on n t last) (first ∙ ap began_with same)
    ∙ ap (is_on (began_with rs) t) (found ∙ ap (λ (ns : List Incarnation). last_switch (applies ns m g t) (switches some)) is ∙ ap (λ (xs : List Record). last_switch (applies (nodes rs) m g t) (switches xs)) same)

-- these switches are found under the numbers 1, 2, 3 and so on
abbrev pub AreFound : List Record → List Switch → Type 0
AreFound rs xs = (k : ℕ) (d : Switch) → k < length xs → option_map switch_of (switch (suc k) rs) ≡ Some (get_or xs k d)

-- then the last of the numbers up to n is that of the first n
last-found : (p : Switch → Bool) (rs : List Record) (xs : List Switch) → AreFound rs xs → (n : ℕ) → n ≤ length xs → last_in n p rs ≡ last_switch p (take n xs)
last-found p rs xs found zero few = sym (in-start p rs)
last-found p rs xs found (suc n) few =
    let none : Switch = record { thread = 0; inc = 0; scn = 0; on = false } in
    let x = get_or xs n none in
    let less : n < length xs = omega arith in
    let next : n + 1 ≡ suc n = omega arith in
    last_in-more n (suc n) p rs refl
    ∙ after (switch (suc n) rs) (last_in n p rs) x (found n none less)
    ∙ ap (λ (l : Option Switch). after_switch p l x) (last-found p rs xs found n (omega arith))
    ∙ sym (last-push p (take n xs) x)
    ∙ sym (ap (last_switch p) (take_more xs n none less))
    ∙ ap (λ (k : ℕ). last_switch p (take k xs)) next
  where
    after : (o : Option SwitchEntry) (l : Option Switch) (x : Switch) → option_map switch_of o ≡ Some x → option_map_or (λ y. after_switch p l (switch_of y)) o l ≡ after_switch p l x
    after None l x is = absurd cc
    after (Some y) l x is = ap (after_switch p l) (same_Some (switch_of y) x is)

-- and whether a thread was enabled where the next switch stands is told by those before it
pub was-told : (rs : List Record) (tree : List Incarnation) (xs : List Switch) (x : SwitchEntry) (n t : ℕ) → AreFound rs xs → n ≤ length xs → x.id ≡ n + 1 → ((g : ℕ) → owner_in 256 x.inc g rs ≡ owner tree x.inc g) → was_enabled rs x t ≡ is_enabled tree (began_with rs) (take n xs) x.inc x.scn t
unfolding is_enabled
was-told rs tree xs x n t found few number paths =
    let p : Switch → Bool = applies_in rs x.inc x.scn t in
    let before : x.id - 1 ≡ n = omega arith in
    ap (is_on (began_with rs) t)
    (ap (λ (k : ℕ). last_in k p rs) before
    ∙ last-found p rs xs found n few
    ∙ last-same p (applies tree x.inc x.scn t) (take n xs) (λ j d inside. let y = get_or (take n xs) j d in ap (λ (o : ℕ). eqb y.thread t && nat_le y.scn x.scn && eqb o y.inc) (paths y.scn)))
