use Rattle.std.proofs.Common.{refl, arith, rules}
use Rattle.sp_base.specs.declared.limits.TheConstants.{MAX_LOCKS, MAX_THREADS}
use Rattle.trace_laws.proofs.Tables.{Lawful-nil, Tracks-empty}
use Rattle.trace_laws.proofs.builder.Builder.new.Goals as goal

pub invariant_of-result : goal.invariant_of-result
invariant_of-result c =
    let none = c.in_ok-with_capacity.ensures.items in
    let owners = c.in_ok-vec.field-0 in
    let joined = c.in_ok-vec-2.field-0 in
    let forked = c.in_ok-vec-3.field-0 in
    let started = c.in_ok-vec-4.field-0 in
    record {
      lawful = rw none Lawful-nil;
      within = rw none (omega arith);
      limit = c.requires;
      room = c.in_ok-with_capacity.ensures.capacity;
      tracks = rw none (Tracks-empty owners.items joined.items forked.items started.items MAX_LOCKS MAX_THREADS refl refl
          (c.in_ok-vec.ensures.items_if_clones_equal (search rules)) (c.in_ok-vec-2.ensures.items_if_clones_equal (λ y h. h)) (c.in_ok-vec-3.ensures.items_if_clones_equal (λ y h. h)) (c.in_ok-vec-4.ensures.items_if_clones_equal (λ y h. h)));
    }
