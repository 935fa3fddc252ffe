use Rattle.std.{specs.Option.{option_copied}, proofs.Common.{◌∙◌, Option, None, Some, IfSome, ap, sym, subst}}
use Rattle.rm_base.specs.declared.refusal.Refusal.TheVariants.{Rm02}
use Rattle.rm_history.specs.Tree.{IsThere}
use Rattle.rm_lang_words.specs.Reading.{duplicate_of}
use Rattle.rm_machine.specs.{Sound.{IsSound}, State.{tree}, declared.state.State.{State}}
use Rattle.rm_step_recover.proofs.{Records.{there}, Targets.{target-there}}
use Rattle.rm_tool_duplicate.{specs.{Asked.{sides}, Refused.{IsRefused, by_reason}}, proofs.Made.{made-all, reason-by-names, refused-all}}
use Rattle.rm_tool_duplicate.proofs.Reasons.{by-numbers, no-source, number-none}
use Rattle.rm_tool_duplicate.proofs.making.duplicate_of.Goals as goal

pub returns-in_default-clause-refused : goal.returns-in_default-clause-refused
returns-in_default-clause-refused g c =
    let x = duplicate_of c.args.said.now in
    let a = sides x (g.D.Store.held c.args.from.now) (g.E.Store.held c.args.to.now) (g.H.Shelf.shelved c.args.shelf.now) in
    subst (λ (o : Option State). IsRefused x a o Rm02) (sym (ap option_copied c.in_default.is)) (by_reason None Rm02 (no-source x a))

pub returns-in-Some-2-clause-refused : goal.returns-in-Some-2-clause-refused
returns-in-Some-2-clause-refused g c =
    let x = duplicate_of c.args.said.now in
    let a = sides x (g.D.Store.held c.args.from.now) (g.E.Store.held c.args.to.now) (g.H.Shelf.shelved c.args.shelf.now) in
    let s = c.in-Some.state.now in
    let r = c.in-Some-2.refusal in
    subst (λ (o : Option State). IsRefused x a o r) (sym (ap option_copied c.in-Some.is)) (by_reason (Some s) r (by-numbers x a s r c.in_ok-refusal.field-0 c.in-Some-2.is c.in_ok-refusal.ensures.reason))

pub name_refusal-requires-clause-there : goal.name_refusal-requires-clause-there
name_refusal-requires-clause-there g c =
    let x = duplicate_of c.args.said.now in
    let s = c.in-Some.state.now in
    let why = c.in_ok-refusal.ensures.reason in
    let none = (number-none x s why.has_records (sym why.is ∙ c.in_default-2.is)).1 in
    there s c.in_ok-hand.hand.records c.in_ok-hand.ensures.records c.target_inc-inc.result
    (subst (λ i. IsThere (tree s) i) (sym c.target_inc-inc.ensures) (target-there s x.until x.incarnation none))

pub returns-in-Some-3-clause-refused : goal.returns-in-Some-3-clause-refused
returns-in-Some-3-clause-refused g c =
    let x = duplicate_of c.args.said.now in
    let a = sides x (g.D.Store.held c.args.from.now) (g.E.Store.held c.args.to.now) (g.H.Shelf.shelved c.args.shelf.now) in
    let s = c.in-Some.state.now in
    let r = c.in-Some-3.refusal in
    let reason = reason-by-names x a s c.in_ok-refusal.field-0 c.in_ok-refusal-2.field-0 (Some r) c.in_ok-hand.hand.records c.target_inc-inc.result
    c.in_default-2.is c.in-Some-3.is c.in_ok-hand.ensures.records c.target_inc-inc.ensures c.in_ok-refusal.ensures.reason c.in_ok-refusal-2.ensures.reason in
    subst (λ (o : Option State). IsRefused x a o r) (sym (ap option_copied c.in-Some.is)) (by_reason (Some s) r reason)

pub returns-clause-made : goal.returns-clause-made
returns-clause-made g c =
    let x = duplicate_of c.args.said.now in
    let a = sides x (g.D.Store.held c.args.from.now) (g.E.Store.held c.args.to.now) (g.H.Shelf.shelved c.args.shelf.now) in
    let s = c.in-Some.state.now in
    let accepted = reason-by-names x a s c.in_ok-refusal.field-0 c.in_ok-refusal-2.field-0 None c.in_ok-hand.hand.records c.target_inc-inc.result
    c.in_default-2.is c.in_default-3.is c.in_ok-hand.ensures.records c.target_inc-inc.ensures c.in_ok-refusal.ensures.reason c.in_ok-refusal-2.ensures.reason in
    let shown = ap option_copied c.in-Some.is in
    made-all x a s (option_copied c.args.source) shown accepted c.duplicate_at.result (subst (λ (o : Option State). IfSome o IsSound) shown c.requires.sound)
    (c.requires.dbid, c.duplicate_at.ensures.dbid) c.duplicate_at.ensures.duplicate c.duplicate_at.ensures.pieces c.duplicate_at.ensures.records

pub returns-clause-refused : goal.returns-clause-refused
returns-clause-refused g c =
    let x = duplicate_of c.args.said.now in
    let a = sides x (g.D.Store.held c.args.from.now) (g.E.Store.held c.args.to.now) (g.H.Shelf.shelved c.args.shelf.now) in
    let s = c.in-Some.state.now in
    let accepted = reason-by-names x a s c.in_ok-refusal.field-0 c.in_ok-refusal-2.field-0 None c.in_ok-hand.hand.records c.target_inc-inc.result
    c.in_default-2.is c.in_default-3.is c.in_ok-hand.ensures.records c.target_inc-inc.ensures c.in_ok-refusal.ensures.reason c.in_ok-refusal-2.ensures.reason in
    refused-all x a s (option_copied c.args.source) (ap option_copied c.in-Some.is) accepted c.duplicate_at.result c.duplicate_at.ensures.gap
