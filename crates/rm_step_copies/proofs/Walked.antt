-- The datafiles are walked ascending: what became of the copies of those before the next.
use Rattle.std.specs.Option.{option_and_then}
use Rattle.std.proofs.Common.{◌≡◌, ◌<◌, ◌≤◌, ◌+◌, ◌++◌, ◌∷◌, [], inl, inr, ℕ, List, Option, Some, None, true, false, refl, sym, subst, arith, is_some, if◌then◌else◌, length, length-append, map, Contains}
use Rattle.std.proofs.lemmas.{List.{map-append, Elements.{Contains-push_cases}}, Option.{slice_get_within}}
use Rattle.rm_apply.{specs.Files.{AreExactly}, proofs.Numbers.{Below, all_numbers, one_more, one_past}}
use Rattle.rm_backup.specs.{Renewed.{IsRenewed}, declared.renewing.Renewed.{Renewed}}
use Rattle.rm_base.proofs.Members.{none-in}
use Rattle.rm_evidence.specs.declared.evidence.Evidence.{Evidence}
use Rattle.rm_history.specs.{World.{exists, file_of}, declared.world.Datafile.{Datafile}}
use Rattle.rm_machine.specs.{RecoverCopy.{AreRenewed, HasTaken}, State.{current_of, ledger, now_of, world}, declared.state.State.{State}}
use Rattle.rm_machine.proofs.Numbers.{file-place}
use Rattle.rm_catalog_typed.specs.TypedCatalog.{records_of}

-- the number of a copy's datafile
abbrev pub file_in : ℕ × Renewed → ℕ
file_in x = x.0

-- those of datafiles below n
pub record AreRenewedBelow (s : State) (e : Evidence) (tag : List ℕ) (at n : ℕ) (xs : List (ℕ × Renewed)) : Type 0 where
  pub exact : AreExactly (Below (HasTaken s tag) n) (map file_in xs)
  pub each : (x : ℕ × Renewed) → Contains xs x → IsRenewed (records_of s.catalog) e x.0 tag at x.1
  pub few : length xs < n

some-held : {X Y : Type 0} (f : X → Option Y) (o : Option X) → is_some (option_and_then f o) ≡ true → (x : X) × (o ≡ Some x)
some-held f None is = absurd (let clash : false ≡ true = is in cc)
some-held f (Some x) is = (x, refl)

module _ (s : State) (e : Evidence) (tag : List ℕ) (at : ℕ) where
  -- a datafile of which a copy is taken is there
  taken-there : (f : ℕ) → HasTaken s tag f → (0 < f) × (f ≤ length (ledger s).files)
  taken-there f has =
      let found = some-held (λ (d : Datafile). if exists (world s) (current_of s) (now_of s) d then Some d else None) (file_of (world s) f) has.on in
      let place = file-place (world s) f found.0 found.1 in
      (omega (arith, place.number), omega (arith, place.number, slice_get_within (ledger s).files place.place found.0 place.is))

  pub below-start : AreRenewedBelow s e tag at 1 []
  below-start = record {
    exact = record {
      ascends = λ i j d less inside. absurd (omega (arith, inside));
      exact = λ f. ((λ has. absurd (none-in f has)), (λ wanted. absurd (omega (arith, wanted.0, (taken-there f wanted.1).0))));
    };
    each = λ x has. absurd (none-in x has);
    few = omega arith;
  }

  module _ (n : ℕ) (xs : List (ℕ × Renewed)) (are : AreRenewedBelow s e tag at n xs) where
    -- one more is taken
    pub below-more : (r : Renewed) → HasTaken s tag n → IsRenewed (records_of s.catalog) e n tag at r → AreRenewedBelow s e tag at (n + 1) (xs ++ (n, r) ∷ [])
    below-more r has is =
        record {
          exact = subst (AreExactly (Below (HasTaken s tag) (n + 1))) (sym (map-append file_in xs ((n, r) ∷ []))) (one_more (HasTaken s tag) n (map file_in xs) are.exact has);
          each = λ x held. elim (Contains-push_cases xs (n, r) x held) [
            | inl old ↦ are.each x old
            | inr same ↦ subst (λ (y : ℕ × Renewed). IsRenewed (records_of s.catalog) e y.0 tag at y.1) same is
          ];
          few = omega (arith, are.few, length-append xs ((n, r) ∷ []));
        }

    -- none is
    pub below-past : ¬ HasTaken s tag n → AreRenewedBelow s e tag at (n + 1) xs
    below-past none = record { exact = one_past (HasTaken s tag) n (map file_in xs) are.exact none; each = are.each; few = omega (arith, are.few) }

    -- all datafiles are walked
    pub below-all : length (ledger s).files < n → AreRenewed s e tag at xs
    below-all past = record {
      exact = all_numbers (HasTaken s tag) n (map file_in xs) (λ f has. omega (arith, (taken-there f has).1, past)) are.exact;
      each = are.each;
    }
