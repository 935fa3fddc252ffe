-- What is told of the records whose objects can't be used.
use Rattle.std.specs.Prelude.{IfSome}
use Rattle.std.proofs.Common.{◌≡◌, ◌∙◌, ◌<◌, ◌^◌, ◌++◌, ℕ, List, [], ◌∷◌, Option, All, length, map, ap, sym, subst}
use Rattle.std.proofs.lemmas.List.Elements.{All-append, All-cons, All-map, All-nil}
use Rattle.rm_base.specs.{Store.{Held}, declared.kinds.Bad.{Bad}}
use Rattle.rm_catalog.specs.declared.record.Record.{Record}
use Rattle.rm_evidence.specs.{Available.{IsSkipped, a_log, a_piece, a_set}, Gathered.{Lists}}
use Rattle.rm_report.specs.{Reply.{IsPlain}, declared.line.Line.{Line, TheVariants.{BadOf, Checked}}}
use Rattle.rm_catalog_typed.{specs.TypedCatalog.{records_of}, proofs.Members.{log-in, piece-in, set-in}}
use Rattle.rm_catalog_typed.proofs.Ids.{few-ids, log-id, piece-id, set-id, IsId}
use Rattle.rm_lang_statement.specs.declared.command.Command.TheVariants.{ValidateAll}
use Rattle.rm_machine.specs.{Effect.{told}, Hands.{Tells}, Sound.{IsSound}, State.{ledger}, Validate.{count_available}}
use Rattle.rm_machine.specs.declared.state.State.{State}

-- the lines
abbrev pub bad_lines : List (ℕ × Bad) → List Line
bad_lines bad = map (λ x. BadOf x.0 x.1) bad

-- once they are counted
pub with-count : (bad seen : List (ℕ × Bad)) (before lines : List Line) (count n : ℕ) → seen ≡ bad → before ≡ bad_lines seen → lines ≡ before ++ Checked count n ∷ [] → lines ≡ bad_lines bad ++ Checked count n ∷ []
with-count bad seen before lines count n same first is = is ∙ ap (λ (xs : List Line). xs ++ Checked count n ∷ []) (first ∙ ap bad_lines same)

-- none has a moment
pub validated-dated : (lines : List Line) (bad : List (ℕ × Bad)) (count n : ℕ) → lines ≡ bad_lines bad ++ Checked count n ∷ [] → All IsPlain lines
validated-dated lines bad count n is =
    subst (All IsPlain) (sym is)
    (All-append IsPlain (bad_lines bad) (Checked count n ∷ []) (All-map IsPlain (λ (x : ℕ × Bad). BadOf x.0 x.1) bad (λ k d inside. tt)) (All-cons IsPlain (Checked count n) [] tt (All-nil IsPlain)))

module _ (s : State) (sound : IsSound s) where
  -- a record that is bad has an id that can be one
  bad-id : (held : Held) (id : ℕ) (bad : Bad) → IsSkipped held (records_of s.catalog) id bad → IsId id
  bad-id held _ _ (a_log l bad has status is) = log-id s.catalog sound.catalog l (log-in s.catalog l sound.catalog has)
  bad-id held _ _ (a_piece p bad has status is) = piece-id s.catalog sound.catalog p (piece-in s.catalog p sound.catalog has)
  bad-id held _ _ (a_set e bad has status is) = set-id s.catalog sound.catalog e (set-in s.catalog e sound.catalog has)

  -- so they can be counted
  few-bad : (held : Held) (bad : List (ℕ × Bad)) → Lists Bad [] (IsSkipped held (records_of s.catalog)) bad → length bad < 2 ^ 32
  few-bad held bad lists =
      let few = few-ids (λ (x : ℕ × Bad). x.0) lists.rest (λ x has. bad-id held x.0 x.1 ((lists.exact x.0 x.1).0 has)) lists.ascends in
      subst (λ (n : ℕ). n < 2 ^ 32) (ap length (sym lists.list)) few

  pub validated : (held : Option Held) (rs : List Record) (bad : List (ℕ × Bad)) (count n : ℕ) (lines : List Line) → rs ≡ records_of s.catalog → IfSome held (λ h. Lists Bad [] (IsSkipped h rs) bad) → count ≡ count_available (ledger s) → (length bad < 2 ^ 32 → n ≡ length bad)
      → lines ≡ bad_lines bad ++ Checked count n ∷ [] → Tells held s ValidateAll lines
  validated held rs bad count n lines same lists counted all is =
      λ objects some.
      let here : Lists Bad [] (IsSkipped objects rs) bad = subst (λ (o : Option Held). IfSome o (λ h. Lists Bad [] (IsSkipped h rs) bad)) some lists in
      let exact : Lists Bad [] (IsSkipped objects (records_of s.catalog)) bad = subst (λ (xs : List Record). Lists Bad [] (IsSkipped objects xs) bad) same here in
      let number : n ≡ length bad = all (few-bad objects bad exact) in
      record {
        bad = bad;
        lists = exact;
        is = ap told (is ∙ ap (λ (m : ℕ). bad_lines bad ++ Checked m n ∷ []) counted ∙ ap (λ (m : ℕ). bad_lines bad ++ Checked (count_available (ledger s)) m ∷ []) number);
      }
