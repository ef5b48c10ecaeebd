use Rattle.std.proofs.Common.{◌≡◌, ◌<◌, [], get_or, take, ⊎_elim, arith}
use Rattle.std.proofs.lemmas.{Bool.cases_lt, List.{get_or_default, get_or-take, length-take}}
use Rattle.sixel_palette.proofs.nearest_entries.Nearest.{nearest-le, nearest-reached}
use Rattle.sixel_palette.proofs.palette.refined.least_apart.Goals as goal

pub loop-position-init : goal.loop-position-init
loop-position-init c =
    grind (arith, get_or_default, c.distance-least.ensures.value, c.distance-least.ensures.small)

pub loop-position-preserved : goal.loop-position-preserved
loop-position-preserved c =
    let colors = c.args.colors.now in
    let position = c.loop-position.position in
    let front = take position colors in
    let h = c.loop-position.invariant in
    let last = get_or colors position [] in
    let at = get_or-take position colors in
    record {
      small = omega (arith, h.small, c.min-least.ensures);
      apart = λ i j d l m.
          ⊎_elim (λ before. omega (arith, h.apart i j d l before, c.min-least.ensures))
          (λ here.
          let e : j ≡ position = omega arith in
          let m : i < position = omega arith in
          let near = nearest-le front last i d (rw (length-take position colors) (omega arith)) in
          rw (e, get_or_default colors position d [] (omega arith), ← at i d m)
          (omega (arith, near, c.squared_to_nearest.ensures, c.min-least.ensures)))
          (cases_lt j position);
      reached = λ d.
          ⊎_elim (λ less.
          let some =
          nearest-reached front last d
          (omega (arith, c.squared_to_nearest.ensures, less, h.small)) in
          let m : some.0 < position = omega (arith, some.1, length-take position colors) in (
            some.0,
            position,
            m,
            omega arith,
            rw (get_or_default colors position d [] (omega arith), ← at some.0 d m)
                (omega (arith, some.2, c.squared_to_nearest.ensures, c.min-least.ensures, less)),
          ))
          (λ more.
          let w = h.reached d in
          (w.0, w.1, w.2, omega (arith, w.3), omega (arith, w.4, c.min-least.ensures, more)))
          (cases_lt c.squared_to_nearest.result c.loop-position.least);
    }

pub returns : goal.returns
returns c =
    let h = c.loop-position.invariant in
    record {
      apart = λ i j d l m. h.apart i j d l (omega arith);
      none = λ few. absurd (omega arith);
      reached = λ d some.
          let w = h.reached d in
          (w.0, w.1, w.2, omega (arith, w.3, c.loop-position.auto.position-end), w.4);
    }
