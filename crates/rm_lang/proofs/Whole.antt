-- Which statements are spelled, and what their tokens are.
use Rattle.std.specs.{Prelude.{◌↔◌}, List.{list_all, flat_map}}
use Rattle.std.proofs.Common.{◌≡◌, refl, ap, sym, subst, inr, ℕ, List, [], ◌∷◌, ◌++◌, append-nil, append_assoc, Some, None, true, codes, Result, Ok, Err, IfOk}
use Rattle.std.proofs.lemmas.Bool.{and_parts, and_from}
use Rattle.rm_base.specs.declared.faults.NoMemory.{NoMemory}
use Rattle.rm_lang_token.specs.{Statements.{statements}, Spelling.{is_statement as is_one}, declared.token.Token.{Token}}
use Rattle.rm_lang_token.specs.declared.token.Token.TheVariants.{Word, Sign}
use Rattle.rm_lang_grammar.specs.{Grammar.{SpellsMany}, Spelling.{one_valid, valid}, Forms.{IsByOne}}
use Rattle.rm_lang_grammar.proofs.{Statements.{by_values, passes, Passes, AllPass}, Within.{one_as, pass_as}}
use Rattle.rm_lang_grammar.proofs.{Endings.{arrives, join, quiet_arrives, line_statement, is_one_statement}, Found.{some_same}}
use Rattle.rm_lang_statement.specs.{IsCommand.{is_command, is_inner, is_statement}, declared.command.{Until.{Until}, Inner.{Inner}}}
use Rattle.rm_lang_statement.specs.declared.command.Inner.TheVariants.{SetUntil, AllocateChannel, Plain as PlainInner}
use Rattle.rm_lang_statement.specs.declared.command.Statement.{Statement, TheVariants.{Plain, Run}}
use Rattle.rm_lang_reading.specs.Recovering.{scn_part, log_or_time}
use Rattle.rm_lang_reading.specs.Language.{forms, set_until, set_until_line, allocate, allocate_line, inner_forms, IsStatement, IsSpelled, statement_at}
use Rattle.rm_lang_reading.{specs.Values.{until_choice, until_values}, proofs.{Parts.{choice_again}, Language.{statement_at-is}}}
use Rattle.rm_lang.{specs.Spelling.{tokens_of, inner_tokens, statement_tokens, ReadsAs}, proofs.Strings.{choice_valid, choice_passes}}
use Rattle.rm_lang.proofs.{Telling.{tokens_of-is}, Passing.{until_faithful, all_pass}, Lines.{told}}

inner_is : (i : Inner) → is_inner i ≡ true → (rest : List Token) → IsByOne inner_forms i (inner_tokens i ++ rest) rest
unfolding inner_forms set_until allocate
inner_is (PlainInner c) h rest = inr (inr (one_as PlainInner forms c (tokens_of c ++ rest) rest (tokens_of-is c h rest)))
inner_is (SetUntil u) h rest =
    by_values inner_forms 0 set_until (until_values u) (SetUntil u) refl (and_from (one_valid (valid scn_part) (valid log_or_time) (until_choice u)) true (choice_valid u h) refl)
    (ap (λ (v : Until). Some (SetUntil v)) (choice_again u)) rest
inner_is AllocateChannel h rest = by_values inner_forms 1 allocate tt AllocateChannel refl refl refl rest

many_are : (is : List Inner) → list_all is_inner is ≡ true → (rest : List Token) → SpellsMany (IsByOne inner_forms) is (flat_map inner_tokens is ++ rest) rest
many_are [] h rest = refl
many_are (i ∷ is) h rest =
    let b = and_parts (is_inner i) (list_all is_inner is) h in
    let behind = flat_map inner_tokens is ++ rest in
    (behind, subst (λ ts. IsByOne inner_forms i ts behind) (sym (append_assoc (inner_tokens i) (flat_map inner_tokens is) rest)) (inner_is i b.0 behind), many_are is b.1 rest)

-- the tokens of a statement that passes the test are the statement
pub statement_tokens-is : (s : Statement) → is_statement s ≡ true → IsStatement (statement_tokens s) s
unfolding IsStatement
statement_tokens-is (Plain c) h = subst (λ ts. IsByOne forms c ts []) (append-nil (tokens_of c)) (tokens_of-is c h [])
statement_tokens-is (Run is) h = (Word (codes "RUN"), flat_map inner_tokens is ++ Sign 125 ∷ [], refl, refl, many_are is h (Sign 125 ∷ []))

set_until_passes : Passes is_inner set_until
unfolding set_until
set_until_passes = record {
  are_faithful = until_faithful;
  passed = λ vs i v m. subst (λ j. is_inner j ≡ true) (some_same m) (choice_passes vs.0 (and_parts (one_valid (valid scn_part) (valid log_or_time) vs.0) true v).0);
}

allocate_passes : Passes is_inner allocate
unfolding allocate
allocate_passes = record { are_faithful = tt; passed = λ vs i v m. subst (λ j. is_inner j ≡ true) (some_same m) refl }

inner_pass : AllPass is_inner inner_forms
unfolding inner_forms
inner_pass = (set_until_passes, (allocate_passes, pass_as PlainInner is_command is_inner forms (λ c h. h) all_pass))

all_inner : (is : List Inner) (ts rest : List Token) → SpellsMany (IsByOne inner_forms) is ts rest → list_all is_inner is ≡ true
all_inner [] ts rest h = refl
all_inner (i ∷ is) ts rest h = and_from (is_inner i) (list_all is_inner is) (passes is_inner inner_forms inner_pass ts h.0 i h.1) (all_inner is h.0 rest h.2)

-- a statement passes the test
pub passed : (ts : List Token) (s : Statement) → IsStatement ts s → is_statement s ≡ true
unfolding IsStatement
passed ts (Plain c) h = passes is_command forms all_pass ts [] c h
passed ts (Run is) h = all_inner is h.1 (Sign 125 ∷ []) h.4

pub exact : (s : Statement) → (is_statement s ≡ true) ↔ IsSpelled s
exact s = (λ h. (statement_tokens s, statement_tokens-is s h), λ h. passed h.0 s h.1)

-- the tokens end at their last alone
inner_arrives : (i : Inner) → arrives true 1 (Some 1) (inner_tokens i) ≡ true
inner_arrives (PlainInner c) = let t = told c in subst (λ ts. arrives true 1 (Some 1) ts ≡ true) (sym t.is) (quiet_arrives true t.line 1 (Some 1) t.values t.inside)
inner_arrives (SetUntil u) = quiet_arrives true set_until_line 1 (Some 1) (until_values u) refl
inner_arrives AllocateChannel = quiet_arrives true allocate_line 1 (Some 1) tt refl

many_arrive : (is : List Inner) → arrives true 1 None (flat_map inner_tokens is ++ Sign 125 ∷ []) ≡ true
many_arrive [] = refl
many_arrive (i ∷ is) =
    subst (λ ts. arrives true 1 None ts ≡ true) (sym (append_assoc (inner_tokens i) (flat_map inner_tokens is) (Sign 125 ∷ [])))
    (join true 1 1 None (inner_tokens i) (flat_map inner_tokens is ++ Sign 125 ∷ []) (inner_arrives i) (many_arrive is))

pub statement_ends : (s : Statement) → is_one (statement_tokens s) ≡ true
statement_ends (Plain c) = let t = told c in subst (λ ts. is_one ts ≡ true) (sym t.is) (line_statement t.line t.values t.alone)
statement_ends (Run is) = is_one_statement (codes "RUN") (Sign 123 ∷ (flat_map inner_tokens is ++ Sign 125 ∷ [])) (many_arrive is)

-- bytes that are one statement with the tokens of this one
pub reads_as : (s : Statement) (ts : List Token) (r : Result (List ℕ) NoMemory) → is_statement s ≡ true → ts ≡ statement_tokens s
    → IfOk r (λ bytes. statements bytes ≡ (1, ts) ∷ []) → IfOk r (λ bytes. ReadsAs bytes s)
reads_as s ts (Ok bytes) h e alone = record { tokens = ts; alone = alone; statement = rw e (statement_tokens-is s h) }
reads_as s ts (Err fault) h e alone = tt

-- what is read passes the test
pub statement_at-passed : (ts : List Token) (s : Statement) → statement_at ts ≡ Some s → is_statement s ≡ true
statement_at-passed ts s e = passed ts s (statement_at-is ts s e)

pub ruleset whole = (statement_at-passed)
