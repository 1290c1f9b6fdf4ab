-- A script played record by record: what is left of it still leads to the same end.
use Rattle.std.specs.Prelude.{None}
use mathlib.Core.Path.{◌≡◌, refl, ◌∙◌}
use mathlib.Core.Logic.{◌≢◌}
use mathlib.Core.Bool.{Bool, true, false, cond, ◌&&◌}
use mathlib.Core.List.{List}
use Prim.Native.Nat.{ℕ, zero, suc, ◌≤◌, zero-le}
use native.Mathlib.Omega.{arith}
use lib.Dec.{leb}
use lib.IntN.{pos}
use lib.ListN.{length, take, drop, length-drop}
use borrow.Author.Tests.{leb-true, ne_eqb}
use Rattle.terms.specs.declared.Family.TheVariants.{TwoRounds}
use Rattle.fields.specs.Bytes.{at2}
use Rattle.head_spec.specs.declared.Head.{Head}
use Rattle.head_spec.specs.Calls.{started}
use Rattle.headplay.specs.declared.Outcome.{Outcome}
use Rattle.headplay.specs.Script.{turn, record_size, played_up_to, played}

-- from x on, the records s lead to y
pub record Leads (s : List ℕ) (x y : Outcome) : Type 0 where
  pub most : ℕ
  pub enough : length s ≤ most
  pub same : played_up_to most s x ≡ y

pub size_fits : (s : List ℕ) → record_size s ≤ length s
size_fits s = go (leb 3 (at2 s 0)) (leb (at2 s 0) (length s)) refl
  where
    go : (a b : Bool) → leb (at2 s 0) (length s) ≡ b → cond (a && b) (at2 s 0) 0 ≤ length s
    go true true e = leb-true (at2 s 0) (length s) e
    go true false e = zero-le
    go false b e = zero-le

module _ {s : List ℕ} {x y : Outcome} (L : Leads s x y) where
  -- a record is cut, or none is left
  pub ends : record_size s ≡ 0 → x ≡ y
  unfolding played_up_to
  ends e = go L.most L.same
    where
      go : (m : ℕ) → played_up_to m s x ≡ y → x ≡ y
      go zero p = p
      go (suc m) p = rw e at p

  pub over : length s ≤ 0 → x ≡ y
  over l = ends (let f = size_fits s in omega arith)

  -- the first record
  pub goes_on : record_size s ≢ 0 → Leads (drop (record_size s) s) (turn (take (record_size s) s) x.head x.offer) y
  unfolding played_up_to
  goes_on d = go L.most L.enough L.same
    where
      go : (m : ℕ) → length s ≤ m → played_up_to m s x ≡ y → Leads (drop (record_size s) s) (turn (take (record_size s) s) x.head x.offer) y
      go zero l p = absurd (d (let f = size_fits s in omega arith))
      go (suc m) l p = record {
        most = m;
        enough = rw (length-drop (record_size s) s) (let f = size_fits s in omega (arith, d));
        same = rw (ne_eqb (record_size s) 0 d) at p;
      }

  -- the first record, of n bytes, and what is behind it
  pub next : {n : ℕ} {front behind : List ℕ} {x' : Outcome} → n ≡ record_size s → n ≢ 0 → front ≡ take n s → behind ≡ drop n s
      → x' ≡ turn front x.head x.offer → Leads behind x' y
  next e d p q t = rw (t, p, q, e) (goes_on (λ z. d (e ∙ z)))

-- all of it
pub starts : (script : List ℕ) {h : Head} → h ≡ started TwoRounds 1 0 0 (pos 0) → played_up_to (length script) script (record { number = 0; head = h; offer = None }) ≡ played script
starts script e = rw e
