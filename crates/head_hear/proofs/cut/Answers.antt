-- Entry after entry: those so far and those of the bytes that remain are all, and what remains is a batch if all is one. It ends where an entry is not
-- whole, or where nothing remains.
use mathlib.Core.Path.{◌≡◌, refl, ap, sym, ◌∙◌}
use mathlib.Core.Logic.{◌≢◌}
use mathlib.Core.Bool.{true, false}
use mathlib.Core.List.{List, []}
use Prim.Native.Nat.{ℕ, ◌+◌, ◌-◌, ◌≤◌, ◌<◌}
use native.Mathlib.Omega.{arith}
use lib.ListN.{length, drop, length-drop}
use lib.Seq.{take_all}
use borrow.Author.Tests.{le-leb, lt-leb}
use Rattle.std.proofs.lemmas.Bool.Decides.{nat_tests}
use Rattle.terms.specs.Refusals as refusal
use Rattle.head_spec.specs.Batch.{entry_size, deliveries_of, is_batch, batch_refusal, cut_into, is_cut_into}
use Rattle.head_spec.proofs.Batches.{some_whole, none_torn, none_cut, torn_told, fits_here, cut_here, told_here, nothing_left}
use Rattle.head_hear.proofs.cut.Invariants.{Cutting}
use Rattle.head_hear.proofs.cut.Goals as goal

module _ {s t : List ℕ} {i : ℕ} (C : Cutting s t i) where
  -- an entry of n bytes is whole, or not
  module _ {n : ℕ} (e : n ≡ entry_size t) where
    fits : n ≢ 0 → (5 ≤ n) × (n ≤ length t)
    fits d = fits_here t (some_whole t e d) e

    goes_on : n ≢ 0 → Cutting s (drop n t) (i + 1)
    goes_on d =
        let w = some_whole t e d in
        let (some, short) = fits d in
        record {
          few = omega (arith, length-drop n t, C.few);
          told = sym (told_here t w e) ∙ C.told;
          count = omega (arith, ap length (cut_here t w e), C.count);
        }

    torn : 0 < length t → n ≡ 0 → (room : ℕ) → (batch_refusal s room ≡ refusal.bad_batch_entry) × (length (deliveries_of s) ≡ i)
    unfolding batch_refusal
    torn l z room =
        let w = none_torn t e z in
        let no : is_batch s ≡ false = sym C.told ∙ torn_told t l w in
        (rw no, omega (arith, ap length (none_cut t w), C.count))

  -- nothing remains
  module _ (none : t ≡ []) where
    all : length (deliveries_of s) ≡ i
    unfolding cut_into
    all = omega (arith, rw none at C.count)

    whole : is_batch s ≡ true
    unfolding is_cut_into
    whole = rw none at (sym C.told)

    short : (room : ℕ) → room < i → batch_refusal s room ≡ refusal.buffer_too_short
    unfolding batch_refusal
    short room m = rw (whole, lt-leb (length (deliveries_of s)) room (omega (arith, all)))

    enough : (room : ℕ) → i ≤ room → batch_refusal s room ≡ 0
    unfolding batch_refusal
    enough room m = rw (whole, le-leb (length (deliveries_of s)) room (omega (arith, all)))

pub loop-rest-init : goal.loop-rest-init
loop-rest-init c = record { few = omega arith; told = refl; count = omega arith }

pub returns-then-size-eq0 : goal.returns-then-size-eq0
returns-then-size-eq0 c =
    let (a, b) = torn c.loop-rest.invariant c.entry_size-size.ensures (grind (arith, nat_tests)) c.if-size-eq0.true c.args.room in
    rw (c.number.ensures, a, b)

pub slice_bounds-rest-start : goal.slice_bounds-rest-start
slice_bounds-rest-start c = omega (arith, fits c.loop-rest.invariant c.entry_size-size.ensures c.if-size-eq0.false)

pub overflow_add-entries : goal.overflow_add-entries
overflow_add-entries c = omega (arith, fits c.loop-rest.invariant c.entry_size-size.ensures c.if-size-eq0.false, c.loop-rest.invariant.few)

pub loop-rest-smaller : goal.loop-rest-smaller
loop-rest-smaller c =
    omega (arith, fits c.loop-rest.invariant c.entry_size-size.ensures c.if-size-eq0.false, length-drop c.entry_size-size.result c.loop-rest.rest.now)

pub loop-rest-preserved : goal.loop-rest-preserved
loop-rest-preserved c =
    let t = c.loop-rest.rest.now in
    let n = c.entry_size-size.result in
    rw (take_all (length t - n) (drop n t) (omega (arith, length-drop n t))) (goes_on c.loop-rest.invariant c.entry_size-size.ensures c.if-size-eq0.false)

pub returns-then-room-entries : goal.returns-then-room-entries
returns-then-room-entries c =
    let l = c.loop-rest.invariant in
    let none = nothing_left c.loop-rest.rest.now (grind (arith, nat_tests)) in
    rw (c.number-then-room-entries.ensures, short l none _ c.if-room-entries.true, all l none)

pub returns : goal.returns
returns c =
    let l = c.loop-rest.invariant in
    let none = nothing_left c.loop-rest.rest.now (grind (arith, nat_tests)) in
    rw (enough l none _ c.if-room-entries.false, all l none)
