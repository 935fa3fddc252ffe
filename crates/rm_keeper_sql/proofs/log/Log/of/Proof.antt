-- `of` makes the empty struct, with the edits that its caller picks. Assumes `Logic`.
use Rattle.std.proofs.{Common.{List, [], ◌∷◌, ◌++◌, refl}, raw_atomic.Walks.{proved_at}}
use mir.Syntax.{a_type}
use mir.Val.{Val, vptr, vstruct, vnil}
use mir.MapTy.{inst_fn}
use prog.Wp.{WpFn}
use contract.Running.{tables}
use types.Kit.{‵, raw, ◌⊛◌, prop, ◌$◌, ◌∵◌, !, qed, keep, drop, split, fsplit, fjoin, fpack, feq_i, feq_l, move, regoal, suffices, done}
use types.Part.{agg}
use types.Run.{enter, returns, no_more}
use types.ByLocal.{alloc_all, pass_all, free_all, look_at, sets}
use denote.Builtin.{RefOf}
use denote.Exit.{yes}
use denote.Param.{param, layouts}
use denote.RattleType.{Valss, owns}
use denote.Signature.{plain, types_at}
use denote.Steps.{nothing}
use denote.Struct.Struct.{within}
use denote.Triple.Entry.{alive}
use denote.Triple.Walked.{says, Stays, stay_dropped, Goes-dropped, walk_of, ends_at}
use Rattle.rm_keeper_sql.{specs.contracts.log.Log.of.Key.{name as #self}, proofs.log.Log.of.Statement.{statement}}
use Rattle.rm_keeper_sql.specs.contracts.log.Log as Log
use Rattle.rm_keeper_sql.specs.contracts.log.Log.of as f
use Rattle.rm_keeper_sql.proofs.log.Log.of.Code as code

abbrev empty : Val
empty = vstruct vnil

pub of_spec : {M : Type 1} → statement M
of_spec 𝓤 𝓛 𝓜 𝓡 wired A L =
    let En = f.ended A in let c = f.clauses A 𝓛 𝓜.mem 𝓡.returns in let 𝓣 = tables 𝓤 𝓛.H 𝓜 𝓡 𝓡.env in
    let inst = layouts (a_type ∷ []) (A, tt) in let fn = inst_fn inst code.function in
    let stayed : Stays En.signature.params En.kept = (stay_dropped (RefOf (0 ∷ []) tt (plain (λ _. param 0 A)) (λ _. tt)) yes, tt) in let W = walk_of 𝓛 En stayed c in
    proved_at 𝓛 En stayed c 𝓜 𝓡 (Goes-dropped 𝓛 2 (RefOf (0 ∷ []) tt (plain (λ _. param 0 A)) (λ _. tt)) yes (λ κs x w. refl), tt)
    (#self inst) fn (code.unfolded 𝓤 𝓛.H 𝓜 𝓡 wired (A, tt)) (λ y are.
    let from = y.0.3.0 in
    let made : Log.the_row.Denot = record { edits = y.1 } in
    qed 𝓛 ((raw (alive 𝓛 En.signature y.0.0 y.0.1) ⊛ ‵ (owns (types_at En.signature.params y.0.0) y.0.3 y.0.4)) ∷ raw ((c y.0.0 y.0.3).requires y.1) ∷ []) ∵
    keep ! (0 ∷ []) $ split ! $ move ! (1 ∷ []) $ fsplit ! $ fsplit ! $ feq_l ! (λ is. drop ! $ drop ! $
    regoal ! (λ (us : List Val). prop (WpFn 𝓤 𝓛.H 𝓣.C 𝓣.Λ fn (us ++ []) (W.post y))) is refl $
    enter ! _ _ _ (vptr from.ref_ptr.0 from.ref_ptr.1 ∷ []) _ $ alloc_all ! (λ l. pass_all ! refl ((tt, tt), tt) $
    sets ! (agg ! (no_more !)) refl (tt, tt) $
    nothing ! $ nothing ! $ feq_i ! (List Val) (empty ∷ []) (empty ∷ []) refl $ fjoin ! $
    fpack ! (Valss []) (within (record { name = []; args = []; types = []; fields = [] }) tt (empty ∷ [])) tt $ fjoin ! $
    returns ! (look_at ! 0 refl) $ free_all ! refl $
    suffices ! _ (ends_at 𝓛 En stayed c y empty made (tt, tt) (tt, tt)) $ says ! refl $ nothing ! $ nothing ! $ fjoin ! $ move ! (2 ∷ 0 ∷ 1 ∷ []) $ done !)))
