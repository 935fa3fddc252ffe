-- What a task made or rolled is the standby that the next call finds.
use Rattle.std.specs.List.{list_all}
use Rattle.std.proofs.Common.{◌≡◌, ◌<◌, ◌^◌, ◌∙◌, ℕ, List, [], ◌∷◌, Option, Some, None, true, refl, ap, sym, subst, arith, map}
use Rattle.rm_base.specs.Store.{Both, Held}
use Rattle.rm_blocks.specs.File.{File}
use Rattle.rm_history.specs.World.{creation_of}
use Rattle.rm_lang_statement.specs.declared.command.Until.TheVariants.{Scn}
use Rattle.rm_lang_words.specs.declared.standby.StandbyTask.{StandbyTask}
use Rattle.rm_machine.specs.{RecoverTest.{test_refusal}, State.{ledger, world}, declared.state.State.{State}}
use Rattle.rm_piece.specs.{Sets.{IsSet}, declared.set.{Set.{Set}, SetFile.{SetFile}}}
use Rattle.rm_report.specs.declared.line.Line.{Line}
use Rattle.rm_standby.specs.{Image.{imaged_member}, Rolling.{rolled_member}, Standby.{has_all, is_standby}}
use Rattle.rm_standby_store.{specs.Names.{IsStandby, standby_name}, proofs.Naming.{name-apart}}
use Rattle.rm_tool_standby.specs.{Asked.{Sides}, Done.{Comes, ComesTo, made, was_rolled}, Ended.{Finishes, Takes}}
use Rattle.rm_tool_standby.specs.{Kept.{Finds, IsNoneOf, Replaced, found_after, next_number}, Refused.{number_refusal}}
use Rattle.rm_tool_standby.proofs.{Stopped.{new-found, next-fits}, Working.{both-none}}

-- each member that is made so has every block
all-full : {X : Type 0} (make : X → SetFile) → ((x : X) → has_all (make x).piece.kind ≡ true) → (xs : List X) → list_all (λ (m : SetFile). has_all m.piece.kind) (map make xs) ≡ true
all-full make full [] = refl
all-full make full (x ∷ xs) = rw (full x) (all-full make full xs)

-- what is known of a new standby
pub record IsNew (found : Option (ℕ × Set)) (new : Set) : Type 0 where
  pub left : number_refusal found ≡ None
  pub valid : IsSet new
  pub full : is_standby new ≡ true

pub new-is : (a : Sides) (s : State) (task : StandbyTask) (found : Option (ℕ × Set)) (new : Set) (lines : List Line) → ComesTo a s task found (Some new) lines → IsNew found new
new-is a s _ _ _ _ (made until found back new makes) = record {
  left = (both-none (test_refusal s (Some (Scn until)) None) (number_refusal found) makes.accepted).1;
  valid = makes.valid;
  full = ap is_standby makes.is ∙ all-full (λ (x : File). imaged_member (ledger s).base.dbid (creation_of (world s) x.file) x) (λ x. refl) back.files;
}
new-is a s _ _ _ _ (was_rolled n number old increment new rolls) = record {
  left = rolls.left;
  valid = rolls.valid;
  full = ap is_standby rolls.is ∙ all-full (rolled_member old) (λ m. refl) increment.members;
}

-- the number of the standby of before lies below the next one
none-of-before : (found : Option (ℕ × Set)) → number_refusal found ≡ None → (k : ℕ) → next_number found < k → k < 2 ^ 64 → IsNoneOf found (standby_name k)
none-of-before None left k over low = tt
none-of-before (Some x) left k over low = λ same. let e = name-apart k x.0 low (omega (arith, over, low)) same in absurd (omega (arith, e, over))

replaced-found : (found : Option (ℕ × Set)) (new : Set) (before after : Held) → IsNew found new → IsStandby before found → Replaced found new before after
    → IsStandby after (Some (next_number found, new))
replaced-found found new before after is stood now = new-found found new before after stood is.left is.valid is.full now.stands (λ k over low.
    let most = (next-fits found is.left).1 in
    now.others (standby_name k)
    (λ same. let e = name-apart k (next_number found) low (omega (arith, most)) same in absurd (omega (arith, e, over)))
    (none-of-before found is.left k over low))

-- by what the store tells
takes-found : (found : Option (ℕ × Set)) (new : Set) (to to' : Option Held) → IsNew found new → Finds to found → Both (Replaced found new) to to' → Finds to' (Some (next_number found, new))
takes-found found new None to' is finds takes = subst (λ (o : Option Held). Finds o (Some (next_number found, new))) (sym takes) tt
takes-found found new (Some before) None is finds takes = tt
takes-found found new (Some before) (Some after) is finds takes = replaced-found found new before after is finds takes

by-new : (task : StandbyTask) (a b : Sides) (found : Option (ℕ × Set)) (new : Option Set) (lines : List Line) → Comes a task found new lines → Takes found new a.to b.to
    → Finds b.to (found_after found new)
by-new task a b found None lines comes takes = subst (λ (o : Option Held). Finds o found) (sym takes) comes.finds
by-new task a b found (Some new) lines comes takes = takes-found found new a.to b.to (new-is a comes.state task found new lines comes.is) comes.finds takes

pub done-found : (task : StandbyTask) (a b : Sides) (before now : Option (List ℕ)) (x : Finishes task a b before now) → Finds b.to (found_after x.found x.new)
done-found task a b before now x = by-new task a b x.found x.new x.lines x.comes x.takes
