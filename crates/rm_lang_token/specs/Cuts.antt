-- Where the statements of a token list are.
use Rattle.std.specs.Prelude.{ℕ, ◌≡◌, ◌<◌, ◌⊎◌, List, [], ◌∷◌, ◌++◌, length, take, map, fold, slice_index_or, IsTrue}
use Rattle.rm_lang_token.specs.{Statements.{depth_after, begins_run}, declared.token.Token.{Token, TheVariants.{Sign}}}

-- how many braces are open behind these tokens
abbrev pub open_braces : List Token → ℕ
open_braces ts = fold depth_after 0 ts

-- The token ends the statement that begins with the tokens before it: it is a ; outside braces, or, where the first token is RUN, the } that closes its first brace.
abbrev pub Ends : List Token → Token → Type 0
Ends before t = ((open_braces before ≡ 0) × (t ≡ Sign 59)) ⊎ (IsTrue (begins_run before) × (open_braces before ≡ 1) × (t ≡ Sign 125))

-- no token of the list ends the statement that begins with the list
abbrev pub HasNoEnding : List Token → Type 0
HasNoEnding ts = (k : ℕ) (t : Token) → k < length ts → ¬ Ends (take k ts) (slice_index_or ts k t)

abbrev pub without_lines : List (ℕ × Token) → List Token
without_lines ps = map (λ p. p.1) ps

-- The tokens are cut into these statements, each with the line of its first token.
pub data Cuts : List (ℕ × Token) → List (ℕ × List Token) → Type 0 where
  -- no tokens, no statements
  nothing : Cuts [] []
  -- a ; with nothing before it is skipped
  skipped : (line : ℕ) (rest : List (ℕ × Token)) (ss : List (ℕ × List Token)) → Cuts rest ss → Cuts ((line, Sign 59) ∷ rest) ss
  -- tokens up to the first ending are a statement
  ended : (p : ℕ × Token) (ps : List (ℕ × Token)) (q : ℕ × Token) (rest : List (ℕ × Token)) (ss : List (ℕ × List Token)) → HasNoEnding (without_lines (p ∷ ps)) → Ends (without_lines (p ∷ ps)) q.1 → Cuts rest ss → Cuts ((p ∷ ps) ++ q ∷ rest) ((p.0, without_lines (p ∷ ps) ++ q.1 ∷ []) ∷ ss)
  -- tokens left without an ending are a statement
  left : (p : ℕ × Token) (ps : List (ℕ × Token)) → HasNoEnding (without_lines (p ∷ ps)) → Cuts (p ∷ ps) ((p.0, without_lines (p ∷ ps)) ∷ [])
