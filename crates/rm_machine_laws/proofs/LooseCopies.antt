-- RECOVER COPY puts names of new ids alone, and takes away those of the records that go.
use Rattle.std.proofs.{Common.{◌≡◌, ℕ, List, Option, true, subst}, lemmas.List.Elements.{All-weaker}}
use Rattle.rm_commit.specs.{Names.{is_named, itself}, declared.commit.Object.{Object}}
use Rattle.rm_lang_statement.specs.declared.command.{Command.TheVariants.{RecoverCopy}, Until.{Until}}
use Rattle.rm_machine.specs.{Effect.{Effect}, Recover.{recover_target}, Step.{refusal_of}, declared.state.State.{State}}
use Rattle.rm_machine_laws.{specs.Loose.{IsNamedBy, StaysLoose, of_object, of_part}, proofs.{Deleting.{named-in}, Leading.{done-by}}}
use Rattle.rm_machine_laws.proofs.{OldCopies.{IsNewCopy}, Renewals.{LeavesRenewed, leaves-renewed}}
use Rattle.rm_machine_laws.proofs.LooseNew.{IsNewName, loose-by, new-piece}

left-free : (s : State) (e : Effect) (t : State) → LeavesRenewed s e t → (name : List ℕ) → IsNamedBy t name → ¬ (is_named itself e.removes name ≡ true)
left-free s e t leaves _ (of_object name names) named = leaves.removes name names (named-in e.removes name named)
left-free s e t leaves _ (of_part p has) named = leaves.parts p.id (named-in e.removes _ named)

pub renew-loose : (tag : List ℕ) (until : Option Until) → StaysLoose (RecoverCopy tag until)
renew-loose tag until s held lines e t sound comes =
    let c = RecoverCopy tag until in
    let leaves = leaves-renewed (recover_target s until) s tag held lines e t sound (done-by (refusal_of s c) s held c lines e t comes).1 in
    loose-by s c e t
    (All-weaker (λ (x : Object). IsNewCopy s x.name) (λ x. IsNewName s x.name) (λ x new. subst (IsNewName s) new.is (new-piece s true new.id sound (record { next = new.next; most = new.most }))) e.puts leaves.puts)
    (left-free s e t leaves) (λ id named. leaves.rolls id (named-in e.removes _ named))
