use Rattle.std.proofs.{Common.{rules, ◌≡◌, ℕ, ◌<◌, refl, ◌∙◌, arith}, lemmas.List.get_or_read}
use Rattle.sixel_palette.proofs.nearest_entries.Keys.{no_span}
use Rattle.sixel_palette.specs.{inside.Codes.{color_of, code_count}, inside.Keys.HasNearest}
use Rattle.sixel_palette.specs.inside.Keys.{group_position, span_at}
use Rattle.sixel_palette.proofs.palette.nearest.Search.group_of.Goals as goal

pub returns-then-span : goal.returns-then-span
returns-then-span c =
    let found : (other : ℕ) → other < code_count → group_position other ≡ group_position c.args.code
    → HasNearest c.args.self.now.entries.items (color_of other) c.args.self.now.groups
    c.index-span.result.now = λ other small same.
    let groups = c.args.self.now.groups in
    let e : c.index-span.result.now ≡ span_at groups (group_position other) =
    rw (same, ← c.group_position-position.ensures.value)
    (get_or_read groups.spans.items _ _ (omega (arith, c.requires.search.group_count))
    c.index-span.ensures no_span) in
    rw e (c.requires.search.groups.each other small (rw e at c.if-span.true)) in
    let own = found c.args.code c.requires.small refl in
    record {
      nearest = found;
      order = own.order;
      within = own.within;
      search = c.requires.search;
      entries = search rules;
      cubes = search rules;
    }

pub returns : goal.returns
returns c =
    let old = c.requires.search in
    let position = c.group_position-position.ensures.value in
    let filled : (other : ℕ) → other < code_count
    → group_position other ≡ group_position c.args.code → HasNearest
    c.args.self.now.entries.items (color_of other) c.fill.new.self c.in_ok-filled.filled =
    λ other small same.
    rw c.deref.ensures.value at
    (c.in_ok-filled.ensures.span (color_of other) (c.group_around.ensures other small same)) in
    let own = filled c.args.code c.requires.small refl in
    record {
      nearest = filled;
      order = own.order;
      within = own.within;
      entries = search rules;
      cubes = search rules;
      search = record {
        group_count = c.in_ok-filled.ensures.size ∙ old.group_count;
        cube_count = old.cube_count;
        groups =
            c.in_ok-filled.ensures.lists group_position c.args.self.now.entries.items
            (λ code small e. c.group_around.ensures code small (e ∙ position))
            (λ code small e. rw c.deref.ensures.value refl) old.groups;
        cubes = old.cubes;
      };
    }
