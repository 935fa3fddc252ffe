-- Statements on records touch no object but that of a record that goes.
use Rattle.std.proofs.{Common.{◌≡◌, ℕ, List, [], ◌∷◌, Some, true, subst, Contains}, lemmas.Bool.{false≢true}}
use Rattle.rm_base.{specs.declared.kinds.Class.{Class}, proofs.Members.{in-front}}
use Rattle.rm_lang_statement.specs.declared.command.{ChangeTo.{ChangeTo}, Command.{Command}}
use Rattle.rm_lang_statement.specs.declared.command.Command.TheVariants.{ChangeBackup, Crosscheck, DeleteBackup, DeleteExpired, DeleteObsolete}
use Rattle.rm_commit.specs.Names.{is_named, itself}
use Rattle.rm_report.specs.declared.line.Line.{Line}
use Rattle.rm_machine.specs.{Effect.{Effect, done}, Sound.{IsSound}, Step.{names_in}}
use Rattle.rm_machine.specs.Upkeep.{changed_to, names_at, removing, with_catalog, with_statuses, without_all}
use Rattle.rm_machine.specs.declared.state.State.{State}
use Rattle.rm_machine_laws.specs.Loose.{IsLoose, IsNamedBy, StaysLoose, of_object, of_part}
use Rattle.rm_machine_laws.proofs.Deleting.{AreGone, gone, increment-free, left-free, named-in, part-free}
use Rattle.rm_machine_laws.proofs.{DeletingObsolete.{are-gone, names_of}, LooseQuiet.{loose-done, quiet-loose}}

pub change-loose : (id : ℕ) (to : ChangeTo) → StaysLoose (ChangeBackup id to)
change-loose id to = loose-done (ChangeBackup id to) (λ s held lines e t sound none is. quiet-loose s (ChangeBackup id to) lines _ e (with_catalog s (changed_to to id s.catalog)) t is)

pub check-loose : (class : Class) → StaysLoose (Crosscheck class)
check-loose class = loose-done (Crosscheck class) (λ s held lines e t sound none does. quiet-loose s (Crosscheck class) lines _ e (with_catalog s (with_statuses does.checked s.catalog)) t does.is)

pub expire-loose : (class : Class) → StaysLoose (DeleteExpired class)
expire-loose class = loose-done (DeleteExpired class) (λ s held lines e t sound none does. quiet-loose s (DeleteExpired class) lines _ e (with_catalog s (without_all does.ids s.catalog)) t does.is)

-- what goes with records is named by none that is left
goes-loose : (s : State) (c : Command) (ids : List ℕ) (names : List (List ℕ)) (lines said : List Line) (e : Effect) (t : State) → IsSound s → AreGone s.catalog ids names
    → done lines e t ≡ done said (removing names) (with_catalog s (without_all ids s.catalog)) → IsLoose (Some s) c e t
goes-loose s c ids names lines said e t sound are is =
    let effect : removing names ≡ e = cc in
    let state : with_catalog s (without_all ids s.catalog) ≡ t = cc in
    subst (IsLoose (Some s) c e) state (subst (λ (x : Effect). IsLoose (Some s) c x (with_catalog s (without_all ids s.catalog))) effect (record {
      puts = λ name names named. absurd (false≢true named);
      low = λ name low named. absurd (false≢true named);
      parts = λ part named. absurd (false≢true named);
      removes = removes;
      rolls = λ id named. absurd (increment-free s.catalog sound.catalog ids names are id (named-in names _ named));
    }))
  where
    removes : (name : List ℕ) → IsNamedBy (with_catalog s (without_all ids s.catalog)) name → is_named itself names name ≡ true → Contains (names_in c) name
    removes _ (of_object name is) named = absurd (left-free s.catalog sound.catalog ids names are name is (named-in names name named))
    removes _ (of_part p has) named = absurd (part-free s.catalog sound.catalog ids names are p.id (named-in names _ named))

pub delete-loose : (id : ℕ) → StaysLoose (DeleteBackup id)
delete-loose id = loose-done (DeleteBackup id) (λ s held lines e t sound none is.
    goes-loose s (DeleteBackup id) (id ∷ []) (names_at id s.catalog) lines _ e t sound (gone s.catalog (id ∷ []) id (in-front id [])) is)

pub obsolete-loose : StaysLoose DeleteObsolete
obsolete-loose = loose-done DeleteObsolete (λ s held lines e t sound none does. goes-loose s DeleteObsolete does.ids (names_of s does.ids) lines _ e t sound (are-gone s does.ids) does.is)
