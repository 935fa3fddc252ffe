-- CONFIGURE leads on: of the base facts the policy or the count of channels changes alone.
use Rattle.std.proofs.Common.{◌≡◌, ◌≤◌, ◌&&◌, inl, ℕ, nat_le, nat_lt, true, false, None, refl, arith, rules}
use Rattle.std.proofs.lemmas.Bool.Decides.{nat_tests}
use Rattle.rm_base.{specs.declared.kinds.Policy.{Policy}, proofs.Conditions.{unless}}
use Rattle.rm_catalog.specs.Facts.{IsPolicy}
use Rattle.rm_catalog_typed.{specs.{Changes.{with_base}, Facts.{IsTypedCatalog}}, proofs.Fitted.{base_fits}}
use Rattle.rm_lang_statement.specs.{IsCommand.{is_command, is_retention}, declared.command.Command.TheVariants.{Parallelism, Retention}}
use Rattle.rm_lang_statement.specs.declared.command.RetentionForm.{RetentionForm, TheVariants.{Clear, Nothing, Redundancy, Window}}
use Rattle.rm_machine.specs.{Configure.{policy_of, policy_refusal, with_channels, with_policy}, Marks.{lacks_ids}, Sound.{IsSound}}
use Rattle.rm_machine.{specs.{State.{ledger}, Upkeep.{with_catalog}, declared.state.State.{State}}, proofs.Entries.{GoesOn}}
use Rattle.rm_machine.proofs.{Later.{borne-same, sound-with}, Switching.{not-above}}
use Rattle.rm_machine_laws.proofs.{Leading.{LeadsOnBy, StaysBy}, Upkeep.{catalog-on, catalog-stays}}

-- with another policy and another count of channels
module _ (s : State) (p : Policy) (channels : ℕ) where
  abbrev other : State
  other = with_catalog s (with_base s.catalog (record (ledger s).base { policy = p; parallelism = channels }))

  settings-fit : IsPolicy p → 1 ≤ channels → channels ≤ 16 → IsTypedCatalog s.catalog → IsTypedCatalog other.catalog
  settings-fit policy some few rules =
      let is = rules.ledger in
      base_fits s.catalog (record (ledger s).base { policy = p; parallelism = channels }) rules (record {
        facts = record { dbid = is.base.dbid; threads = is.base.threads; next_id = is.base.next_id; moment = is.base.moment; policy = policy; parallelism = (some, few) };
        current = is.current;
        threads = refl;
        next_id = omega arith;
        moment = omega arith;
      })

  settings-on : IsPolicy p → 1 ≤ channels → channels ≤ 16 → IsSound s → GoesOn s other.catalog
  settings-on policy some few sound =
      let rules = settings-fit policy some few sound.catalog in
      record {
        sound = sound-with s other.catalog rules;
        borne = λ h objects made touched is. borne-same s other.catalog rules h objects made touched is (λ e has. inl has) (λ p has. inl has) (λ e has. inl has);
        saved = λ none. none;
      }

-- a number of the grammar is not 0, and below a limit that was not passed
some : (n : ℕ) → (nat_le 1 n && nat_le n 18446744073709551615) ≡ true → 1 ≤ n
some n is = grind (arith, nat_tests)

-- a policy that was not refused is in its range
policy-fits : (form : RetentionForm) → is_retention form ≡ true → policy_refusal form ≡ None → IsPolicy (policy_of form)
policy-fits (Window days) is none = (some days is, search rules)
policy-fits (Redundancy count) is none = (some count is, search rules)
policy-fits Nothing is none = tt
policy-fits Clear is none = (omega arith, omega arith)

policy-on : (s : State) (form : RetentionForm) → IsSound s → is_retention form ≡ true → policy_refusal form ≡ None → GoesOn s (with_policy s.catalog (policy_of form))
policy-on s form sound is none =
    let range = sound.catalog.ledger.base.parallelism in
    settings-on s (policy_of form) (ledger s).base.parallelism (policy-fits form is none) range.0 range.1 sound

-- and so is a count of channels
channels-on : (s : State) (channels : ℕ) → IsSound s → is_command (Parallelism channels) ≡ true → nat_lt 16 channels ≡ false → GoesOn s (with_channels s.catalog channels)
channels-on s channels sound is few = settings-on s (ledger s).base.policy channels sound.catalog.ledger.base.policy (some channels is) (not-above 16 channels few) sound

pub retention-on : (form : RetentionForm) → LeadsOnBy (Retention form)
retention-on form s h objects made touched said e t after well borne tell none does effect =
    catalog-on s (with_policy s.catalog (policy_of form)) h objects made touched _ said e t after (policy-on s form borne.state well.0 (unless (lacks_ids s 0) _ _ none).1) borne does effect

pub retention-stays : (form : RetentionForm) → StaysBy (Retention form)
retention-stays form s objects said e t well sound unsaved none does =
    catalog-stays s (with_policy s.catalog (policy_of form)) _ said e t (policy-on s form sound well.0 (unless (lacks_ids s 0) _ _ none).1) sound unsaved does

pub parallelism-on : (channels : ℕ) → LeadsOnBy (Parallelism channels)
parallelism-on channels s h objects made touched said e t after well borne tell none does effect =
    catalog-on s (with_channels s.catalog channels) h objects made touched _ said e t after (channels-on s channels borne.state well.0 (search rules)) borne does effect

pub parallelism-stays : (channels : ℕ) → StaysBy (Parallelism channels)
parallelism-stays channels s objects said e t well sound unsaved none does =
    catalog-stays s (with_channels s.catalog channels) _ said e t (channels-on s channels sound well.0 (search rules)) sound unsaved does
