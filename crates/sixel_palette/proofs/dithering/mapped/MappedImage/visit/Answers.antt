use Rattle.std.proofs.Common.{ap, refl, sym, subst, ◌∙◌, arith, length, length-set}
use Rattle.std.specs.Prelude.{◌+◌, ◌*◌, ◌<◌}
use Rattle.sixel_palette.specs.{Dithering.{IsIndex, neighbor_of}, inside.Diffusion.channels}
use Rattle.sixel_palette.specs.{inside.Mapped.mapped_value, declared.dithering.mapped.Kept.Kept}
use Rattle.sixel_palette.proofs.mapped_images.DiffusionVisit.{IsVisit-dark, IsVisit-stored}
use Rattle.sixel_palette.proofs.mapped_images.DitheredIndices.{AreEntries-set}
use Rattle.sixel_palette.proofs.mapped_images.KeptEntries.{IsIndex-near, IsKept-nearer}
use Rattle.sixel_palette.proofs.dithering.mapped.MappedImage.visit.Goals as goal

pub returns-then-not-is_opaque : goal.returns-then-not-is_opaque
returns-then-not-is_opaque c = record {
  indices = length-set c.args.indices.now c.args.place.pixel 0 ∙ c.requires.indices;
  entries =
      AreEntries-set c.args.self.now.colors.now c.args.indices.now c.args.place.pixel 0
      (rw c.requires.indices c.requires.place.within) c.requires.entries c.requires.image.some;
  visit = λ errors received.
      IsVisit-dark c.args.self.now errors c.args.place c.args.indices.now c.no_error.result
      c.requires.image c.requires.place c.requires.indices
      (c.is_opaque.ensures.transparent c.if-not-is_opaque.true) c.no_error.ensures.value
      c.no_error.ensures.lanes;
  prepared = c.requires.prepared;
}

pub index_of-index-requires-clause-before : goal.index_of-index-requires-clause-before
index_of-index-requires-clause-before c = λ entry is.
    rw (sym (c.requires.prepared.sixteen c.in-Some.sixteen c.in-Some.is).0)
    (c.requires.inside entry is)

pub index_of-index-requires-clause-above : goal.index_of-index-requires-clause-above
index_of-index-requires-clause-above c = λ entry is.
    rw (sym (c.requires.prepared.sixteen c.in-Some.sixteen c.in-Some.is).0)
    (c.entry_above-above.ensures.inside entry c.requires.entries is)

pub store-requires : goal.store-requires
store-requires c = record {
  strength = c.requires.image.strength;
  pixel = rw c.requires.indices c.requires.place.within;
  four = c.sixteenths.ensures.values.four;
  values = c.sixteenths.ensures.values.small;
  index =
      rw (c.requires.prepared.sixteen c.in-Some.sixteen c.in-Some.is).0
      c.index_of-index.ensures.within;
  parts = rw c.deref.ensures.value c.requires.prepared.parts;
}

pub returns-in-Some : goal.returns-in-Some
returns-in-Some c =
    let stored = c.store.ensures in
    record {
      indices = ap length stored.indices ∙ length-set _ _ _ ∙ c.requires.indices;
      entries = stored.entries c.requires.entries;
      visit = λ errors received.
          let image = c.args.self.now in
          let m = mapped_value image in
          let n = c.args.place.row * m.width + c.args.place.step in
          let target = channels c.sixteenths.result.1 in
          let above = c.entry_above-above.ensures in
          let chosen : IsIndex m target (neighbor_of m target c.args.indices.now n)
          c.index_of-index.result =
          let (all, lanes) = c.requires.prepared.sixteen c.in-Some.sixteen c.in-Some.is in
          rw (sym c.requires.entry, sym above.value)
          (c.index_of-index.ensures.index m all refl lanes) in
          IsVisit-stored image errors c.args.place c.index_of-index.result _ _ target _ _ _
          c.requires.image c.requires.place c.requires.indices received
          c.sixteenths.ensures.values (c.is_opaque.ensures.opaque c.if-not-is_opaque.false)
          c.sixteenths.ensures.target chosen stored.indices stored.error stored.lanes;
      prepared = c.requires.prepared;
    }

pub returns-in_ok-index : goal.returns-in_ok-index
returns-in_ok-index c =
    let stored = c.store-then-kept-self.ensures in
    record {
      indices = ap length stored.indices ∙ length-set _ _ _ ∙ c.requires.indices;
      entries = stored.entries c.requires.entries;
      visit = λ errors received.
          let m = mapped_value c.args.self.now in
          let n = c.args.place.row * m.width + c.args.place.step in
          let target = c.color_of-target.result in
          let neighbor = neighbor_of m target c.args.indices.now n in
          IsVisit-stored c.args.self.now errors c.args.place c.in_ok-index.index _ _ target _ _ _
          c.requires.image c.requires.place c.requires.indices received
          c.sixteenths.ensures.values (c.is_opaque.ensures.opaque c.if-not-is_opaque.false)
          (c.color_of-target.ensures ∙ c.sixteenths.ensures.target)
          (c.in_ok-index.ensures.index neighbor
          (IsKept-nearer m target neighbor _ _ _ c.neighbors.ensures.above
          c.neighbors.ensures.before c.or_nearer-kept.ensures.second
          c.or_nearer-kept.ensures.first)) stored.indices stored.error stored.lanes;
      prepared = record {
        search = c.in_ok-index.ensures.search;
        sixteen = c.requires.prepared.sixteen;
        parts = c.requires.prepared.parts;
      };
    }

pub returns-then-above-before : goal.returns-then-above-before
returns-then-above-before c =
    let stored = c.store-then-above-before.ensures in
    let nearer = c.or_nearer-kept.ensures.second c.if-above-before.true in
    let near : c.neighbors.result.1.squared < c.args.self.now.tolerance =
    subst (λ (k : Kept). k.squared < c.args.self.now.tolerance) nearer c.if-kept-self.false in
    record {
      indices = ap length stored.indices ∙ length-set _ _ _ ∙ c.requires.indices;
      entries = stored.entries c.requires.entries;
      visit = λ errors received.
          IsVisit-stored c.args.self.now errors c.args.place c.neighbors.result.1.index _ _
          c.color_of-target.result _ _ _ c.requires.image c.requires.place c.requires.indices
          received c.sixteenths.ensures.values
          (c.is_opaque.ensures.opaque c.if-not-is_opaque.false)
          (c.color_of-target.ensures ∙ c.sixteenths.ensures.target)
          (IsIndex-near _ _ _ c.neighbors.result.1
          (c.neighbors.ensures.above c.if-above-before.true) near (omega (arith, near)))
          stored.indices stored.error stored.lanes;
      prepared = c.requires.prepared;
    }

pub returns-else-above-before : goal.returns-else-above-before
returns-else-above-before c =
    let stored = c.store-else-above-before.ensures in
    let nearer = c.or_nearer-kept.ensures.first c.if-above-before.false in
    let near : c.neighbors.result.0.squared < c.args.self.now.tolerance =
    subst (λ (k : Kept). k.squared < c.args.self.now.tolerance) nearer c.if-kept-self.false in
    record {
      indices = ap length stored.indices ∙ length-set _ _ _ ∙ c.requires.indices;
      entries = stored.entries c.requires.entries;
      visit = λ errors received.
          IsVisit-stored c.args.self.now errors c.args.place c.neighbors.result.0.index _ _
          c.color_of-target.result _ _ _ c.requires.image c.requires.place c.requires.indices
          received c.sixteenths.ensures.values
          (c.is_opaque.ensures.opaque c.if-not-is_opaque.false)
          (c.color_of-target.ensures ∙ c.sixteenths.ensures.target)
          (IsIndex-near _ _ _ c.neighbors.result.0
          (c.neighbors.ensures.before c.if-above-before.false) near (omega (arith, near)))
          stored.indices stored.error stored.lanes;
      prepared = c.requires.prepared;
    }
