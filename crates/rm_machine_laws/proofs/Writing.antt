-- WRITE leads on: the history grows, and each artefact goes on to agree.
use Rattle.std.proofs.{Common.{◌≡◌, ◌∙◌, ◌++◌, ℕ, List, [], ◌∷◌, length, sym, subst}, lemmas.List.{append-nil}}
use Rattle.rm_base.specs.{Store.{Held}, declared.block.Change.{Change}}
use Rattle.rm_lang_statement.specs.declared.command.{WriteForm.{WriteForm}, Command.TheVariants.{Write}}
use Rattle.rm_machine.specs.{Effect.{Effect, Made, no_effect}, Machine.{IsBorneOut}, State.{ledger}, Write.{change_of, with_write}}
use Rattle.rm_machine.{specs.declared.state.State.{State}, proofs.{Kept.{stand-same}, Later.{borne-beside}}}
use Rattle.rm_machine.proofs.{Writes.{Accepted, write-accepted}, WritesSound.{sound-write}}
use Rattle.rm_machine_laws.proofs.{Leading.{LeadsOnBy, StaysBy}, Quiet.{landed, same-stays}, WritesKeep.{keeps-write, made-write}}

abbrev changed : State → WriteForm → Effect
changed s w = record no_effect { changes = change_of s w ∷ [] }

-- an accepted write goes on to be borne out, by its change
pub borne-write : (s : State) (w : WriteForm) (h : List Change) (objects : Held) (made : List Made) (touched : List (List ℕ)) → Accepted s w → length w.content.0 ≡ 64 → IsBorneOut s h objects made touched
    → IsBorneOut (with_write s w) (h ++ change_of s w ∷ []) objects made touched
borne-write s w h objects made touched a full stands = record {
  state = sound-write s w stands.state a full;
  keeps = keeps-write s w h stands.state stands.keeps a;
  artefacts = λ x has. made-write s w h stands.state stands.keeps a x.artefact (stands.artefacts x has);
  records = record { logs = stands.records.logs; pieces = stands.records.pieces; sets = stands.records.sets };
}

pub write-on : (w : WriteForm) → LeadsOnBy (Write w)
write-on w s h objects made touched said e t after well stands tell none does effect =
    let q : State = with_write s w in
    landed q (changed s w) h objects made touched e t after (cc) (cc) effect (λ left.
    subst (λ k. IsBorneOut q (h ++ change_of s w ∷ []) after k touched) (sym (append-nil made))
    (borne-beside q (h ++ change_of s w ∷ []) objects after made touched touched (borne-write s w h objects made touched (write-accepted s w stands.state none) well.1 stands)
    (stand-same objects after touched (ledger q) (ledger q) (λ n. left.removes n ∙ left.puts n))))

pub write-stays : (w : WriteForm) → StaysBy (Write w)
write-stays w s objects said e t well sound none accepted does =
    same-stays (with_write s w) t (cc) (sound-write s w sound (write-accepted s w sound accepted) well.1) none
