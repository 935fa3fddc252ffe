-- Where a new standby was to take the place of that of before and was stopped, one of them is found.
use Rattle.std.specs.Str.{bytes_eq}
use Rattle.std.proofs.Common.{◌≡◌, ◌≢◌, ◌⊎◌, inl, inr, ◌<◌, ◌≤◌, ◌+◌, ◌^◌, ◌∙◌, ℕ, Bool, true, false, List, Option, Some, None, ap, sym, subst, arith, if◌then◌else◌, nat_lt, rules, refl}
use Rattle.std.proofs.lemmas.{Bool.{cases_eq}, Slice.Eq.{bytes_eq-Decides}}
use Rattle.rm_base.specs.{Store.{Held, SameBut}, declared.refusal.{Limit.TheVariants.{ObjectIds}, Refusal.TheVariants.{Rm11}}}
use Rattle.rm_piece.specs.{SetSpelling.{set_spelling}, Sets.{IsSet}, declared.set.Set.{Set}}
use Rattle.rm_standby.specs.Standby.{is_standby}
use Rattle.rm_standby_store.{specs.Names.{IsBelow, IsStandby, StandsAs, standby_name}, proofs.Naming.{name-apart}}
use Rattle.rm_tool_standby.specs.{Kept.{StoppedIn, TornSpellsNone, in_put, in_remove, next_number}, Refused.{number_refusal}}

-- the next number is one that a standby can have, above that of before
by-left : (k : ℕ) (b : Bool) → nat_lt k 4294967295 ≡ b → (if b then None else Some (Rm11 ObjectIds)) ≡ None → k + 1 ≤ 4294967295
by-left k true is left = search rules
by-left k false is left = absurd (cc)

pub next-fits : (found : Option (ℕ × Set)) → number_refusal found ≡ None → (1 ≤ next_number found) × (next_number found ≤ 4294967295)
next-fits None left = (omega arith, omega arith)
next-fits (Some x) left = (omega arith, by-left x.0 (nat_lt x.0 4294967295) refl left)

next-above : (found : Option (ℕ × Set)) (k : ℕ) → next_number found ≤ k → IsBelow found k
next-above None k over = tt
next-above (Some x) k over = omega (arith, over)

-- above the standby of a store none stands
none-above : (held : Held) (found : Option (ℕ × Set)) → IsStandby held found → (k : ℕ) (s : Set) → IsBelow found k → ¬ StandsAs held k s
none-above held None is k s below stands = is k s stands
none-above held (Some x) is k s below stands = is.1 k s below stands

-- a standby stands where the same bytes do
moved : (before after : Held) (k : ℕ) (s : Set) → after (standby_name k) ≡ before (standby_name k) → StandsAs after k s → StandsAs before k s
moved before after k s same stands = record { number = stands.number; spelled = (stands.spelled.0, sym same ∙ stands.spelled.1); standby = stands.standby }

module _ (found : Option (ℕ × Set)) (new : Set) (before after : Held) (is : IsStandby before found) (left : number_refusal found ≡ None) (valid : IsSet new) (full : is_standby new ≡ true) where
  abbrev next : ℕ
  next = next_number found

  -- the new one stands, and what stood above its number stands there no more
  pub new-found : after (standby_name next) ≡ Some (set_spelling new) → ((k : ℕ) → next < k → k < 2 ^ 64 → after (standby_name k) ≡ before (standby_name k)) → IsStandby after (Some (next, new))
  new-found stands same = (
    record { number = next-fits found left; spelled = (valid, stands); standby = full },
    λ k s over other. none-above before found is k s (next-above found k (omega (arith, over))) (moved before after k s (same k over (let most = other.number.1 in omega (arith, most))) other),
  )

  module _ (same : SameBut (standby_name next) before after) (torn : TornSpellsNone found new after) where
    other-name : (k : ℕ) → k < 2 ^ 64 → k ≢ next → after (standby_name k) ≡ before (standby_name k)
    other-name k low not = same (standby_name k) (λ names. not (name-apart k next low (let most = (next-fits found left).1 in omega (arith, most)) names))

    -- where the new one does not stand, none does above that of before
    none-yet : after (standby_name next) ≢ Some (set_spelling new) → (k : ℕ) (s : Set) → IsBelow found k → ¬ StandsAs after k s
    none-yet not k s below stands = elim (cases_eq k next) [
      | inl at ↦
          let spelled : after (standby_name next) ≡ Some (set_spelling s) = subst (λ n. after (standby_name n) ≡ Some (set_spelling s)) at stands.spelled.1 in
          not (spelled ∙ ap (λ a. Some (set_spelling a)) (torn.none s stands.spelled.0 stands.standby spelled))
      | inr apart ↦ none-above before found is k s below (moved before after k s (other-name k (let most = stands.number.1 in omega (arith, most)) apart) stands)
    ]

    old-found : after (standby_name next) ≢ Some (set_spelling new) → IsStandby after found
    old-found not = by-found found refl
      where
        by-found : (o : Option (ℕ × Set)) → found ≡ o → IsStandby after o
        by-found None at = λ k s stands. none-yet not k s (subst (λ p. IsBelow p k) (sym at) tt) stands
        by-found (Some x) at =
            let stood : IsStandby before (Some x) = subst (IsStandby before) at is in
            let above : x.0 + 1 ≡ next = ap next_number (sym at) in (
              moved after before x.0 x.1 (sym (other-name x.0 (let most = stood.0.number.1 in omega (arith, most)) (λ e. absurd (omega (arith, e, above))))) stood.0,
              λ k s over stands. none-yet not k s (subst (λ p. IsBelow p k) (sym at) over) stands,
            )

    -- stopped in the put
    in-put : IsStandby after found ⊎ IsStandby after (Some (next, new))
    in-put = by-bytes (after (standby_name next)) refl
      where
        by-equal : (bytes : List ℕ) → after (standby_name next) ≡ Some bytes → (b : Bool) → bytes_eq bytes (set_spelling new) ≡ b → IsStandby after found ⊎ IsStandby after (Some (next, new))
        by-equal bytes at true eq =
            inr (new-found (at ∙ ap (λ bs. Some bs) ((bytes_eq-Decides bytes (set_spelling new)).0 eq)) (λ k over low. other-name k low (λ e. absurd (omega (arith, e, over)))))
        by-equal bytes at false eq =
            inl (old-found (λ stands.
            let both : Some bytes ≡ Some (set_spelling new) = sym at ∙ stands in
            let one : bytes ≡ set_spelling new = cc in
            let clash : true ≡ false = sym ((bytes_eq-Decides bytes (set_spelling new)).1 one) ∙ eq in absurd (cc)))

        by-bytes : (o : Option (List ℕ)) → after (standby_name next) ≡ o → IsStandby after found ⊎ IsStandby after (Some (next, new))
        by-bytes None at = inl (old-found (λ stands. let clash : None ≡ Some (set_spelling new) = sym at ∙ stands in absurd (cc)))
        by-bytes (Some bytes) at = by-equal bytes at (bytes_eq bytes (set_spelling new)) refl

  -- stopped in the removal
  in-removal : (number : ℕ) (old : Set) → found ≡ Some (number, old) → after (standby_name (number + 1)) ≡ Some (set_spelling new)
      → ((n : List ℕ) → n ≢ standby_name (number + 1) → n ≢ standby_name number → after n ≡ before n) → IsStandby after (Some (next, new))
  in-removal number old at stands others =
      let above : next ≡ number + 1 = ap next_number at in
      new-found (subst (λ k. after (standby_name k) ≡ Some (set_spelling new)) (sym above) stands) (λ k over low.
      let most = (next-fits found left).1 in
      others (standby_name k)
      (λ names. let e = name-apart k (number + 1) low (omega (arith, most, above)) names in absurd (omega (arith, e, over, above)))
      (λ names. let e = name-apart k number low (omega (arith, most, above)) names in absurd (omega (arith, e, over, above))))

  pub one-is-found : StoppedIn found new before after → TornSpellsNone found new after → IsStandby after found ⊎ IsStandby after (Some (next, new))
  one-is-found (in_put same) torn = in-put same torn
  one-is-found (in_remove number old at stands others) torn = inr (in-removal number old at stands others)
