use Rattle.std.proofs.Common.{List, map, refl, subst}
use Rattle.rm_evidence.specs.{Known.{known_of}, Database.{world_of}}
use Rattle.rm_apply.{specs.{Preview.{AreOrigins}, declared.targets.TargetFile.{TargetFile}}, proofs.Firsts.{gap_or_none}}
use Rattle.rm_apply.proofs.Numbers.{number, unnamed}
use Rattle.rm_apply.proofs.previewing.preview_from.Goals as goal

pub returns-clause-previews : goal.returns-clause-previews
returns-clause-previews g c =
    let w = world_of c.args.catalog.now in
    let e = c.in_ok-evidence.evidence in
    let ts = c.in_ok-targets.targets in
    let gap = c.in_ok-gap.ensures in
    record {
      evidence = e;
      is = record { at_hand = c.in_ok-evidence.ensures.gathered; fits = c.in_ok-evidence.ensures.fits };
      numbers = map number ts;
      targets = unnamed w c.args.i c.args.s ts ts refl c.in_ok-targets.ensures.numbers;
      from = subst (λ (us : List TargetFile). AreOrigins w e.bases c.args.i c.args.s (map number us) c.in_ok-origins.origins) c.as_slice.ensures c.in_ok-origins.ensures;
      first = gap_or_none w (known_of e) c.args.i c.args.s c.in_ok-gap.gap gap.none gap.some gap.unknown;
      not_available = refl;
    }
