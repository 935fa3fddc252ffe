-- The blocks that a BLOCKRECOVER names, where they are there: their numbers are small.
use Rattle.std.specs.Option.{option_and_then, option_map, option_map_or}
use Rattle.std.proofs.Common.{◌≡◌, ◌<◌, ◌≤◌, ◌∙◌, inl, inr, ℕ, Option, Some, None, nat_le, refl, ap, sym, arith, find, Contains}
use Rattle.std.proofs.lemmas.Bool.{cases_lt, le-leb}
use Rattle.rm_base.{specs.declared.refusal.Absent.{Absent}, proofs.Lists.{find_none}}
use Rattle.rm_base.specs.declared.refusal.Absent.TheVariants as absent
use Rattle.rm_history.specs.declared.world.Datafile.{Datafile}
use Rattle.rm_lang_statement.specs.declared.command.NamedBlocks.{NamedBlocks}
use Rattle.rm_machine.specs.{BlockRecoverRefusal.{absent_named}, Sound.{IsSound}, State.{on_path}, declared.state.State.{State}}
use Rattle.rm_machine.proofs.{Numbers.{numbered}, Tracked.{on-path}}

pub record IsNamed (n : NamedBlocks) : Type 0 where
  pub some : 0 < n.file
  pub most : n.file ≤ 64
  pub inside : (b : ℕ) → Contains n.blocks b → b < 65536

none-mapped : (f : ℕ → Absent) (o : Option ℕ) → option_map f o ≡ None → o ≡ None
none-mapped f None none = refl
none-mapped f (Some b) none = absurd (cc)

named-by : (s : State) (n : NamedBlocks) → IsSound s → (o : Option Datafile) → on_path s n.file ≡ o
    → option_map_or (λ (d : Datafile). option_map (λ b. absent.Block b n.file) (find (λ b. nat_le d.blocks b) n.blocks)) o (Some (absent.File n.file)) ≡ None → IsNamed n
named-by s n sound None is none = absurd (cc)
named-by s n sound (Some d) is none =
    let at = numbered s n.file d sound (on-path s n.file d is).0 in
    record {
      some = at.some;
      most = at.most;
      inside = λ b has. elim (cases_lt b d.blocks) [
        | inl low ↦ let most = at.blocks in omega (arith, low, most)
        | inr high ↦ absurd (find_none (λ c. nat_le d.blocks c) n.blocks b (none-mapped (λ c. absent.Block c n.file) (find (λ c. nat_le d.blocks c) n.blocks) none) has (le-leb d.blocks b high))
      ];
    }

pub named : (s : State) (n : NamedBlocks) → IsSound s → absent_named s n ≡ None → IsNamed n
named s n sound none = named-by s n sound (on_path s n.file) refl none

-- those of a form
pub named-form : (s : State) (o : Option NamedBlocks) (n : NamedBlocks) → option_and_then (absent_named s) o ≡ None → o ≡ Some n → absent_named s n ≡ None
named-form s o n none is = sym (ap (option_and_then (absent_named s)) is) ∙ none
