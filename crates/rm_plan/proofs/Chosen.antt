-- The rows of some blocks, one after another.
use mathlib.Core.List.{map-append}
use Rattle.std.proofs.Common.{◌≡◌, ◌∙◌, ◌+◌, ◌<◌, ℕ, List, [], ◌∷◌, ◌++◌, All, drop, get_or, length, map, take, refl, ap, subst, sym, append_assoc, take-append-drop}
use Rattle.std.proofs.lemmas.List.{take_more, Elements.{All-cons, All-nil}}
use Rattle.rm_base.{specs.declared.block.{Block.{Block}, BlockId.{BlockId}, Part.{Part}, Row.{Row}}, proofs.Lists.{all_zip_join}}
use Rattle.rm_history.specs.{Evidence.{Evidence}, FirstGap.{IsDetermined}, declared.world.World.{World}}
use Rattle.rm_plan.specs.{Blocks.{AreToldRows, IsToldRow, NamesFirstOf}, Chosen.{AreToldParts, IsFaultOf, id_of, row_of}}
use Rattle.rm_plan.specs.{Plan.{IsFault, NamesGap, Tells}, declared.plan.{Gap.{Gap}, PlanFault.{PlanFault}}}
use Rattle.rm_plan.specs.declared.plan.PlanFault.TheVariants as fault

module _ (w : World) (e : Evidence) (i s : ℕ) where
  -- blocks whose rows are told are determined
  pub told-determined : (xs : List BlockId) (rows : List Row) → AreToldRows w e i s xs rows → All (λ x. IsDetermined w e i s x.file x.block) xs
  told-determined [] rows are = All-nil (λ x. IsDetermined w e i s x.file x.block)
  told-determined (x ∷ xs) [] are = absurd are
  told-determined (x ∷ xs) (r ∷ rows) are =
      All-cons (λ x. IsDetermined w e i s x.file x.block) x xs (record { version = r.version; content = r.content; is = are.0.tells.determined }) (told-determined xs rows are.1)

  -- one part more
  pub chosen-more : (f d k v : ℕ) (x : Block) (bs : List ℕ) (parts : List Part) → k < length bs → AreToldParts w e i s f (take k bs) parts → Tells w e i s f (get_or bs k d) (record { version = v; content = x })
      → AreToldParts w e i s f (take (k + 1) bs) (parts ++ record { block = get_or bs k d; version = v; content = x } ∷ [])
  chosen-more f d k v x bs parts inside are tells =
      let b : ℕ = get_or bs k d in
      let part : Part = record { block = b; version = v; content = x } in
      coe 1 0 (j. AreToldRows w e i s ((ap (map (id_of f)) (take_more bs k d inside) ∙ map-append (id_of f) (take k bs) (b ∷ [])) j) (map-append row_of parts (part ∷ []) j))
      (all_zip_join (IsToldRow w e i s) (map (id_of f) (take k bs)) (id_of f b ∷ []) (map row_of parts) (row_of part ∷ []) are (record { block = refl; tells = tells }, tt))

  -- the gap of a block behind those that are told
  pub first-of : (told rest : List BlockId) (x : BlockId) (rows : List Row) (gap : Gap) → AreToldRows w e i s told rows → NamesGap w e i s x.file x.block gap → NamesFirstOf w e i s (told ++ x ∷ rest) gap
  first-of told rest x rows gap are names = record { told = told; block = x; rest = rest; is = refl; determined = told-determined told rows are; names = names }

  pub chosen-fault : (f d k : ℕ) (bs : List ℕ) (parts : List Part) (x : PlanFault) → k < length bs → AreToldParts w e i s f (take k bs) parts → IsFault w e i s f (get_or bs k d) x → IsFaultOf w e i s (map (id_of f) bs) x
  chosen-fault f d k bs parts fault.NoMemory inside are names = tt
  chosen-fault f d k bs parts (fault.Gap gap) inside are names =
      let b : ℕ = get_or bs k d in
      let whole : take k bs ++ b ∷ drop (k + 1) bs ≡ bs =
      sym (append_assoc (take k bs) (b ∷ []) (drop (k + 1) bs)) ∙ ap (λ (l : List ℕ). l ++ drop (k + 1) bs) (sym (take_more bs k d inside)) ∙ take-append-drop (k + 1) bs in
      subst (λ (xs : List BlockId). NamesFirstOf w e i s xs gap) (sym (map-append (id_of f) (take k bs) (b ∷ drop (k + 1) bs)) ∙ ap (map (id_of f)) whole)
      (first-of (map (id_of f) (take k bs)) (map (id_of f) (drop (k + 1) bs)) (id_of f b) (map row_of parts) gap are names)
