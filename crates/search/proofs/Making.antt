-- What joins make. The union of a lawful join is a fragment that falls into the join's two sides. All unions of lawful joins are made out of each other
-- (`Made`), and so are those that come strictly before a set, by size and label. Of an accepted record.
use mathlib.Core.Path.{◌≡◌, sym}
use mathlib.Core.Logic.{inl, inr, ◌≢◌, ⊎_elim}
use mathlib.Core.List.Memᴰ.{cases_cons as mem_cons}
use mathlib.Core.List.Memᴰ.{tail as m_tail}
use mathlib.Core.List.{List, [], ◌∷◌, Memᴰ as Mem}
use Prim.Native.Nat.{ℕ, ◌+◌, ◌≤◌, ◌<◌}
use native.Mathlib.Omega.{arith}
use lib.Bits.{bit_or, or_lt}
use Rattle.bitset.specs.Bits.{Sub, size}
use Rattle.bitset.proofs.Laws.{size_disjoint, size_zero, sub_or}
use Rattle.bitset.proofs.Decide.{sets, v, or, sub}
use Rattle.molecule.specs.Lists.{Bytes}
use Rattle.molecule.specs.Record.{bonds}
use Rattle.molecule.specs.Check.{accepted, check}
use Rattle.molecule.specs.Connected.{Own, Connected}
use Rattle.canonize.proofs.Laws.{label_size}
use Rattle.matches.specs.Inner.Ranks.{Akin, before}
use Rattle.matches.proofs.Laws.{smaller_before, before_size, before_in, before_has}
use Rattle.search.specs.Pathway.{Join, union}
use Rattle.search.specs.Inner.Joining.{MembersIn, after, HasLabel, Ready, JoinAfter, JoinsAfter, MadeBy, Made}
use Rattle.search.proofs.Tests.{ready_more}
use Rattle.search.proofs.Fragments.{union_connected}

-- a fragment has a bond
pub some_size : (r : Bytes) (x : ℕ) → Connected r x → 1 ≤ size x
some_size r x k = let n : size x ≢ 0 = λ e. k.some (size_zero x e) in omega arith

module _ (r : Bytes) where
  -- ---- one join

  -- the union is a fragment that falls into the two sides, and neither is empty
  pub record Falls (j : Join) : Type 0 where
    pub own : Own r (union j)
    pub whole : Connected r (union j)
    pub left_in : Sub j.left (union j)
    pub right_in : Sub j.right (union j)
    pub sizes : size j.left + size j.right ≡ size (union j)
    pub left_some : 1 ≤ size j.left
    pub right_some : 1 ≤ size j.right

  pub join_falls : (made : List ℕ) (j : Join) → JoinAfter r made j → Falls j
  unfolding union
  join_falls made j h =
      let a : ℕ = j.left in
      let b : ℕ = j.right in
      let o : Own r (bit_or a b) = or_lt (bonds r) a b h.left_own h.right_own in
      record {
        own = o;
        whole = union_connected r a b o h.left_connected h.right_connected h.meet;
        left_in = sub_or a b;
        right_in = sets [] (sub (v 1) (or (v 0) (v 1))) (a ∷ b ∷ []) tt;
        sizes = sym (size_disjoint a b h.apart);
        left_some = some_size r a h.left_connected;
        right_some = some_size r b h.right_connected;
      }

  -- a made set is a fragment of two bonds or more
  pub made_fragment : (l : List ℕ) (u : ℕ) → MadeBy r l u → Own r u × Connected r u × (2 ≤ size u)
  made_fragment l u m =
      let w = join_falls l m.join m.lawful in
      rw (← m.is) (w.own, w.whole, omega (arith, w.sizes, w.left_some, w.right_some))

  -- a set stays made where the sides of its join stay ready
  join_ready : (l l' : List ℕ) (u : ℕ) (m : MadeBy r l u) → Ready r l' m.join.left → Ready r l' m.join.right → MadeBy r l' u
  join_ready l l' u m a b =
      let h = m.lawful in
      record {
        join = m.join;
        lawful = record {
          left_own = h.left_own;
          right_own = h.right_own;
          left_connected = h.left_connected;
          right_connected = h.right_connected;
          apart = h.apart;
          meet = h.meet;
          left_ready = a;
          right_ready = b;
        };
        is = m.is;
      }

  -- ---- joins one after another

  -- when more is made
  made_more : (l l' : List ℕ) (u : ℕ) → MembersIn l l' → MadeBy r l u → MadeBy r l' u
  made_more l l' u w m =
      let h = m.lawful in
      join_ready l l' u m (ready_more r l l' m.join.left w h.left_ready) (ready_more r l l' m.join.right w h.right_ready)

  -- all that lawful joins make is made out of itself
  pub joins_made : (made : List ℕ) (js : List Join) → Made r made → JoinsAfter r made js → Made r (after made js)
  joins_made made [] M a = M
  joins_made made (j ∷ js) M a = joins_made (union j ∷ made) js more a.1
    where
      old : (u : ℕ) → MadeBy r made u → MadeBy r (union j ∷ made) u
      old u m = made_more made (union j ∷ made) u (λ x i. m_tail i) m

      more : Made r (union j ∷ made)
      more u i = ⊎_elim (λ (e : u ≡ union j). old u (record { join = j; lawful = a.0; is = sym e })) (λ (k : Mem u made). old u (M u k)) (mem_cons i)

  -- ---- what comes strictly before a set q, by size and label

  module _ (ok : check r ≡ accepted) (L : List ℕ) (M : Made r L) where
    -- where a made set has the label of a fragment of two bonds or more, the two are akin
    pub label_akin : (x : ℕ) → Own r x → Connected r x → HasLabel r L x → (u : ℕ) × Mem u L × Akin r u x
    label_akin x o k w =
        let u : ℕ = w.0 in
        let f = made_fragment L u (M u w.1) in
        (u, w.1, record { big = f.2; sizes = label_size r r u x ok ok f.0 o f.1 k w.2; labels = w.2 })

    -- a fragment smaller than q stays ready: a made set with its label is as small
    pub ready_before : (q a : ℕ) → Own r a → Connected r a → size a < size q → Ready r L a → Ready r (before r q L) a
    ready_before q a o k l (inl e) = inl e
    ready_before q a o k l (inr w) =
        let u = label_akin a o k w in
        inr (u.0, before_has r q u.0 L u.1 (smaller_before r q u.0 (omega (arith, u.2.sizes))), u.2.labels)

    -- so the made sets that come strictly before q are made out of each other: the sides of a join are smaller than its union
    pub made_before : (q : ℕ) → Made r (before r q L)
    made_before q u i =
        let b = before_in r q u L i in
        let m = M u b.0 in
        let h = m.lawful in
        let w = join_falls L m.join h in
        let l : size (union m.join) ≤ size q = rw m.is (before_size r q u b.1) in
        join_ready L (before r q L) u m
        (ready_before q m.join.left h.left_own h.left_connected (omega (arith, l, w.sizes, w.right_some)) h.left_ready)
        (ready_before q m.join.right h.right_own h.right_connected (omega (arith, l, w.sizes, w.left_some)) h.right_ready)
