-- Lists of writes alone, as a share without sections.
use Rattle.std.specs.{Global.{Global}, Option.{option_map}, Result.{result_ok}}
use Rattle.std.proofs.Common.{◌≡◌, ◌∙◌, ℕ, ◌+◌, ◌≤◌, Some, Option, Result, Ok, Err, IfOk, List, [], Vec, length, refl, ap, subst, arith}
use Rattle.std.proofs.lemmas.List.{length-map, Elements.{All-nil}}
use Rattle.atomic_table.specs.Seated.{TableId}
use Rattle.rm_live.specs.{Passes.{Standing}, declared.history.{Event.{Event}, LiveFault.{LiveFault}}}
use Rattle.rm_channel.specs.{Jobs.{Deed, AreAsLong, lists, writes_of, wrote_of}, Made.{AreThese}, Room.{AreThreads, IsThere}}
use Rattle.rm_channel.specs.{Runs.{CanRun, HasRun, HasWritten, told_of}, declared.{jobs.WriteJob.{WriteJob}, working.Done.{Done}}}
use Rattle.rm_channel.proofs.Runs.{ran-as, these-self}

pub can-lists : (p : Standing) (at : TableId) (writers : List (Vec WriteJob Global)) (t : ℕ) → p.home ≡ at → 1 ≤ length writers → (1 ≤ t) × (t + length writers ≤ 5) → length writers ≤ length p.numbers → AreThreads p.opening.logs t (lists writers)
    → CanRun p at [] (lists writers) record { channels = 1; from = 0; to = 0; thread = t }
can-lists p at writers t home some few room threads =
    let many = length-map writers (λ (v : Vec WriteJob Global). v.items) in record {
      home = home;
      some = omega arith;
      numbers = omega arith;
      order = omega arith;
      within = omega arith;
      channels = (omega arith, omega arith);
      thread = few.0;
      few = let a = few.1 in omega arith;
      files = All-nil (IsThere p.opening.files);
      logs = threads;
    }

-- the answers of all lists
abbrev AreAnswers : {E : Type 0} → Result Done E → Result (Vec (Vec (Result ℕ LiveFault) Global) Global) E → Type 0
AreAnswers done r = IfOk r (λ v. (d : Done) × (done ≡ Ok d) × (d.answers.items ≡ v.items))

pub written : {E : Type 0} (p : Standing) (seen : List Event) (t : ℕ) (w : List (List WriteJob)) (done : Result Done E) (r : Result (Vec (Vec (Result ℕ LiveFault) Global) Global) E) → AreAnswers done r → HasRun p seen [] t w done
    → HasWritten p seen t w r
written {E = E} p seen t w done r got run = record {
  ran = ran-as p seen (writes_of t w) (writes_of t w) (told_of [] t w done) (told r) (record { counts = λ g. refl; order = λ u. refl }) (lead r got) run.ran;
  answers = long r got;
}
  where
    told : Result (Vec (Vec (Result ℕ LiveFault) Global) Global) E → Option (List Deed)
    told r = option_map (λ v. wrote_of t w (lists v.items)) (result_ok r)

    lead : (r : Result (Vec (Vec (Result ℕ LiveFault) Global) Global) E) → AreAnswers done r → (ds' : List Deed) → told r ≡ Some ds' → (ds : List Deed) × (told_of [] t w done ≡ Some ds) × AreThese ds' ds
    lead (Err e) got ds' is = absurd (cc is)
    lead (Ok v) got ds' is = (ds', ap (told_of {E = E} [] t w) got.1 ∙ ap (λ (l : List (Vec (Result ℕ LiveFault) Global)). Some (wrote_of t w (lists l))) got.2 ∙ is, these-self ds')

    long : (r : Result (Vec (Vec (Result ℕ LiveFault) Global) Global) E) → AreAnswers done r → IfOk r (λ v. AreAsLong (lists v.items) w)
    long (Err e) got = tt
    long (Ok v) got =
        subst (λ (l : List (Vec (Result ℕ LiveFault) Global)). AreAsLong (lists l) w) got.2 (subst (λ (o : Result Done E). IfOk o (λ d. AreAsLong (lists d.answers.items) w)) got.1 run.answers)
