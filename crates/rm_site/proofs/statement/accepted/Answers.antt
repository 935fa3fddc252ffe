use Rattle.std.proofs.Common.{◌∙◌, ap, sym}
use Rattle.rm_machine.specs.Nature.{by_state}
use Rattle.rm_machine_laws.proofs.Accepted.{asks_store, it-changes}
use Rattle.rm_site.proofs.statement.accepted.Goals as goal

pub returns-in_ok-change-in-Changes-clause-answer : goal.returns-in_ok-change-in-Changes-clause-answer
returns-in_ok-change-in-Changes-clause-answer g c =
    it-changes (g.D.Store.held c.args.store.now) c.args.state.now c.args.command.now c.requires.accepted c.requires.sound c.in_ok-change-in-Changes.field-0 c.change.new.state
    c.requires.command (sym c.nature_of.ensures ∙ c.in-Changes.is) c.requires.unsaved c.in_ok-change-in-Changes.ensures.hands

pub returns-in-TellsHeld-clause-by_state : goal.returns-in-TellsHeld-clause-by_state
returns-in-TellsHeld-clause-by_state g c = asks_store _ _ _ (ap by_state (sym c.nature_of.ensures ∙ c.in-TellsHeld.is))

pub returns-in-TestsHeld-clause-by_state : goal.returns-in-TestsHeld-clause-by_state
returns-in-TestsHeld-clause-by_state g c = asks_store _ _ _ (ap by_state (sym c.nature_of.ensures ∙ c.in-TestsHeld.is))

pub returns-in-ChangesByHeld-clause-by_state : goal.returns-in-ChangesByHeld-clause-by_state
returns-in-ChangesByHeld-clause-by_state g c = asks_store _ _ _ (ap by_state (sym c.nature_of.ensures ∙ c.in-ChangesByHeld.is))

pub returns-in-TriesByHeld-clause-by_state : goal.returns-in-TriesByHeld-clause-by_state
returns-in-TriesByHeld-clause-by_state g c = asks_store _ _ _ (ap by_state (sym c.nature_of.ensures ∙ c.in-TriesByHeld.is))

pub returns-in-Records-clause-by_state : goal.returns-in-Records-clause-by_state
returns-in-Records-clause-by_state g c = asks_store _ _ _ (ap by_state (sym c.nature_of.ensures ∙ c.in-Records.is))

pub returns-in-Mishap-clause-by_state : goal.returns-in-Mishap-clause-by_state
returns-in-Mishap-clause-by_state g c = asks_store _ _ _ (ap by_state (sym c.nature_of.ensures ∙ c.in-Mishap.is))

pub returns-in_ok-change-in-Changes-clause-by_state : goal.returns-in_ok-change-in-Changes-clause-by_state
returns-in_ok-change-in-Changes-clause-by_state g c = λ alone held.
    (it-changes held c.args.state.now c.args.command.now c.requires.accepted c.requires.sound c.in_ok-change-in-Changes.field-0 c.change.new.state
    c.requires.command (sym c.nature_of.ensures ∙ c.in-Changes.is) c.requires.unsaved c.in_ok-change-in-Changes.ensures.hands).comes
