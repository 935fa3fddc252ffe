-- What is needed of one datafile after the other.
use Rattle.std.proofs.{Common.{◌≡◌, ◌+◌, ◌∷◌, ◌++◌, [], ℕ, List, Some, inl, inr, sym, subst, arith, Contains}, lemmas.Bool.{cases_lt}}
use Rattle.rm_base.proofs.Lists.{at_end, front_or_end, in_front_part}
use Rattle.rm_catalog.specs.{Rules.{IsCatalog}, declared.record.Record.{Record}}
use Rattle.rm_history.specs.World.{file_of}
use Rattle.rm_evidence.{specs.Database.{world_of}, proofs.Current.{file_number}}
use Rattle.rm_retain.specs.{Chosen.{Retention}, Needs.{IsFileNeed, AreFileNeeds, HaveFileNeeds}, Obsolete.{IsOnPath}}
use Rattle.rm_retain.specs.declared.file_need.FileNeed.{FileNeed}

module _ (r : Retention) (n : ℕ) (xs : List FileNeed) where
  -- one more that is needed
  pub more_sound : (x : FileNeed) → AreFileNeeds r xs → IsOnPath r n × IsFileNeed r n x → AreFileNeeds r (xs ++ x ∷ [])
  more_sound x sound is y held = elim (front_or_end xs x y held) [
    | inl before ↦ sound y before
    | inr last ↦ subst (λ (z : FileNeed). IsOnPath r z.file × IsFileNeed r z.file z) last (subst (λ f. IsOnPath r f × IsFileNeed r f x) (sym is.1.file) is)
  ]

  pub more_complete : (x : FileNeed) → HaveFileNeeds r n xs → x.file ≡ n → HaveFileNeeds r (n + 1) (xs ++ x ∷ [])
  more_complete x all is f below path = elim (cases_lt f n) [
    | inl less ↦ let y = all f less path in (y.0, in_front_part xs x y.0 y.1, y.2)
    | inr from ↦ (x, at_end xs x, omega (arith, is, below, from))
  ]

  -- one more that is not on the path
  pub none_complete : HaveFileNeeds r n xs → ¬ IsOnPath r n → HaveFileNeeds r (n + 1) xs
  none_complete all off f below path = elim (cases_lt f n) [
    | inl less ↦ all f less path
    | inr from ↦ let here : f ≡ n = omega (arith, below, from) in absurd (off (subst (IsOnPath r) here path))
  ]

-- no datafile has a greater number
pub all_complete : (r : Retention) (rs : List Record) (xs : List FileNeed) → IsCatalog rs → r.world ≡ world_of rs → HaveFileNeeds r 65 xs → (f : ℕ) → IsOnPath r f → (x : FileNeed) × Contains xs x × (x.file ≡ f)
all_complete r rs xs catalog world all f path =
    let number = file_number rs f path.datafile catalog (subst (λ w. file_of w f ≡ Some path.datafile) world path.is) in
    all f (omega (arith, number.1)) path
