-- The candidates in their buckets: clearing the table, walking the chain of a bucket, and adding a candidate. Assumes nothing.
use Rattle.std.proofs.Common.{◌≡◌, refl, sym, ap, ◌∙◌, ◌⊎◌, inl, inr, ◌≢◌, Bool, true, false, List, [], ◌∷◌, ◌++◌, ℕ, zero, suc, ◌+◌, ◌-◌, ◌*◌, ◌/◌, ◌%◌, ◌≤◌, ◌<◌, mod-lt, arith, eq-eqb, ne_eqb, eqb, length, get_or, take, set, length-append, length-set, take-suc, get_or-set_same, get_or-set_other, Some, None}
use Rattle.std.proofs.Math.Decide.{ℕ_discrete}
use Rattle.std.proofs.Math.ListN.{get_or-append}
use Rattle.std.proofs.Math.Seq.{take-length, get_or_at}
use Rattle.clear.specs.Inner.Part.{zero_part}
use Rattle.clear.proofs.Part.{part_length, part_below, part_zero, part_above}
use Rattle.bitset.proofs.Bools.{two}
use Rattle.molecule.specs.Lists.{any, pick}
use Rattle.matches.specs.Table.{note}
use Rattle.enumerate.specs.Inner.Bucketed.{bucket_of, last_in, Enumerated, Bucketed, Spared, Collected}

-- ---- buckets

pub bucket_lt : (x p : ℕ) → 0 < p → bucket_of x p < p
unfolding bucket_of
bucket_lt x p h = mod-lt (x % 4294967291 * 2654435761 / 4294967296) h

module _ (l : List ℕ) (p h : ℕ) where
  last_here : (n : ℕ) → bucket_of (get_or l n 0) p ≡ h → last_in l p h (suc n) ≡ suc n
  unfolding last_in
  last_here n e = rw (eq-eqb (bucket_of (get_or l n 0) p) h e, last_in)

  last_past : (n : ℕ) → bucket_of (get_or l n 0) p ≢ h → last_in l p h (suc n) ≡ last_in l p h n
  unfolding last_in
  last_past n e = rw (ne_eqb (bucket_of (get_or l n 0) p) h e, last_in)

  last_le : (n : ℕ) → last_in l p h n ≤ n
  unfolding last_in
  last_le zero = omega arith
  last_le (suc n) = go (ℕ_discrete (bucket_of (get_or l n 0) p) h) (last_le n)
    where
      go : Dec (bucket_of (get_or l n 0) p ≡ h) → last_in l p h n ≤ n → last_in l p h (suc n) ≤ suc n
      go (yes e) ih = omega (arith, last_here n e)
      go (no e) ih = omega (arith, last_past n e)

  -- the set there is in the bucket
  last_in_lem : (n i : ℕ) → last_in l p h n ≡ suc i → bucket_of (get_or l i 0) p ≡ h
  unfolding last_in
  last_in_lem zero i e = absurd (omega arith)
  last_in_lem (suc n) i e = go (ℕ_discrete (bucket_of (get_or l n 0) p) h) (last_in_lem n i)
    where
      go : Dec (bucket_of (get_or l n 0) p ≡ h) → (last_in l p h n ≡ suc i → bucket_of (get_or l i 0) p ≡ h) → bucket_of (get_or l i 0) p ≡ h
      go (yes q) ih = let j : i ≡ n = omega (arith, last_here n q) in rw j q
      go (no q) ih = ih (sym (last_past n q) ∙ e)

-- lists that agree below n
last_same : (l m : List ℕ) (p h n : ℕ) → ((i : ℕ) → i < n → get_or l i 0 ≡ get_or m i 0) → last_in l p h n ≡ last_in m p h n
unfolding last_in
last_same l m p h zero e = refl
last_same l m p h (suc n) e = go (ℕ_discrete (bucket_of (get_or l n 0) p) h) (last_same l m p h n (λ i k. e i (omega arith)))
  where
    q : bucket_of (get_or m n 0) p ≡ bucket_of (get_or l n 0) p
    q = ap (λ (x : ℕ). bucket_of x p) (sym (e n (omega arith)))

    go : Dec (bucket_of (get_or l n 0) p ≡ h) → last_in l p h n ≡ last_in m p h n → last_in l p h (suc n) ≡ last_in m p h (suc n)
    go (yes k) ih = last_here l p h n k ∙ sym (last_here m p h n (q ∙ k))
    go (no k) ih = last_past l p h n k ∙ ih ∙ sym (last_past m p h n (λ z. k (sym q ∙ z)))

-- ---- walking

pub any_end : (x y : ℕ) (l : List ℕ) → y ≢ x → any (eqb x) (l ++ (y ∷ [])) ≡ any (eqb x) l
any_end x y [] n = rw (ne_eqb x y (λ e. n (sym e)))
any_end x y (z ∷ l) n = rw (any_end x y l n)

pick_true : (b : Bool) → pick b true true ≡ true
pick_true true = refl
pick_true false = refl

pub any_hit : (x : ℕ) (l : List ℕ) → any (eqb x) (l ++ (x ∷ [])) ≡ true
any_hit x [] = rw (eq-eqb x x refl)
any_hit x (z ∷ l) = rw (any_hit x l) (pick_true (eqb x z))

-- what is left of the chain holds x where the list does; k is 1 more than the next index, 0 for none
pub record Walking (l : List ℕ) (p x k : ℕ) : Type 0 where
  pub within : k ≤ length l
  pub here : (i : ℕ) → k ≡ suc i → bucket_of (get_or l i 0) p ≡ bucket_of x p
  pub left : any (eqb x) l ≡ any (eqb x) (take k l)

module _ (l : List ℕ) (p x : ℕ) where
  -- past the last in its bucket there is no x
  past_last : (n : ℕ) → n ≤ length l → any (eqb x) (take n l) ≡ any (eqb x) (take (last_in l p (bucket_of x p) n) l)
  unfolding last_in
  past_last zero h = refl
  past_last (suc n) h = go (ℕ_discrete (bucket_of (get_or l n 0) p) (bucket_of x p)) (past_last n (omega arith))
    where
      go : Dec (bucket_of (get_or l n 0) p ≡ bucket_of x p) → any (eqb x) (take n l) ≡ any (eqb x) (take (last_in l p (bucket_of x p) n) l) → any (eqb x) (take (suc n) l) ≡ any (eqb x) (take (last_in l p (bucket_of x p) (suc n)) l)
      go (yes e) ih = rw (last_here l p (bucket_of x p) n e)
      go (no e) ih =
          let d : get_or l n 0 ≢ x = λ q. e (ap (λ (z : ℕ). bucket_of z p) q) in
          ap (any (eqb x)) (take-suc l n 0 h) ∙ any_end x (get_or l n 0) (take n l) d ∙ ih ∙ sym (ap (λ (k : ℕ). any (eqb x) (take k l)) (last_past l p (bucket_of x p) n e))

  walking_last : (n : ℕ) → n ≤ length l → any (eqb x) l ≡ any (eqb x) (take n l) → Walking l p x (last_in l p (bucket_of x p) n)
  walking_last n h e = record {
    within = omega (arith, last_le l p (bucket_of x p) n);
    here = last_in_lem l p (bucket_of x p) n;
    left = e ∙ past_last n h;
  }

  module _ (k : ℕ) (w : Walking l p x k) where
    pub walking_within : k ≢ 0 → k - 1 < length l
    walking_within n = omega (arith, w.within)

    turn : k ≢ 0 → any (eqb x) l ≡ any (eqb x) (take (k - 1) l ++ (get_or l (k - 1) 0 ∷ []))
    turn n =
        let e : k ≡ suc (k - 1) = omega arith in
        w.left ∙ ap (λ (m : ℕ). any (eqb x) (take m l)) e ∙ ap (any (eqb x)) (take-suc l (k - 1) 0 (walking_within n))

    walking_on : k ≢ 0 → get_or l (k - 1) 0 ≢ x → Walking l p x (last_in l p (bucket_of (get_or l (k - 1) 0) p) (k - 1))
    walking_on n d =
        let e : k ≡ suc (k - 1) = omega arith in
        rw (w.here (k - 1) e) (walking_last (k - 1) (omega (arith, w.within)) (turn n ∙ any_end x (get_or l (k - 1) 0) (take (k - 1) l) d))

    walking_is : k ≢ 0 → get_or l (k - 1) 0 ≡ x → true ≡ any (eqb x) l
    walking_is n e = sym (turn n ∙ ap (λ (y : ℕ). any (eqb x) (take (k - 1) l ++ (y ∷ []))) e ∙ any_hit x (take (k - 1) l))

-- the same by the words of the table
module _ {parts : List ℕ} {p : ℕ} {l : List ℕ} (f : Bucketed parts p l) where
  pub walking_start : (x : ℕ) → Walking l p x (get_or parts (3 * p + bucket_of x p) 0)
  walking_start x = rw (f.last (bucket_of x p) (bucket_lt x p f.some)) (walking_last l p x (length l) (omega arith) (ap (any (eqb x)) (sym (take-length l))))

  module _ {x k : ℕ} (w : Walking l p x k) (n : k ≢ 0) where
    pub walking_hit : get_or parts (p + (k - 1)) 0 ≡ x → true ≡ any (eqb x) l
    walking_hit e = walking_is l p x k w n (sym (f.listed.sets (k - 1) (walking_within l p x k w n)) ∙ e)

    pub walking_next : get_or parts (p + (k - 1)) 0 ≢ x → Walking l p x (get_or parts (2 * p + (k - 1)) 0)
    walking_next d = rw (f.before (k - 1) (walking_within l p x k w n))
        (walking_on l p x k w n (λ e. d (f.listed.sets (k - 1) (walking_within l p x k w n) ∙ e)))

    pub walking_less : get_or parts (2 * p + (k - 1)) 0 < k
    walking_less = rw (f.before (k - 1) (walking_within l p x k w n)) (omega (arith, last_le l p (bucket_of (get_or l (k - 1) 0) p) (k - 1)))

-- ---- what is not written

-- region 1 is as it was
pub enumerated_same : {old now : List ℕ} {p : ℕ} {l : List ℕ} → ((i : ℕ) → p ≤ i → i < 2 * p → get_or now i 0 ≡ get_or old i 0) → Enumerated old p l
    → Enumerated now p l
enumerated_same {p = p} same f = record { fits = f.fits; sets = λ i h. same (p + i) (omega arith) (omega (arith, f.fits)) ∙ f.sets i h }

-- regions 0 to 3 are
pub bucketed_same : {old now : List ℕ} {p : ℕ} {l : List ℕ} → length now ≡ length old → ((i : ℕ) → i < 4 * p → get_or now i 0 ≡ get_or old i 0) → Bucketed old p l
    → Bucketed now p l
bucketed_same {p = p} long same f = record {
  some = f.some;
  wide = omega (arith, long, f.wide);
  listed = enumerated_same (λ i h k. same i (omega arith)) f.listed;
  before = λ i h. same (2 * p + i) (omega (arith, f.listed.fits)) ∙ f.before i h;
  last = λ h k. same (3 * p + h) (omega arith) ∙ f.last h k;
}

-- ---- clearing

pub spared_same : {l : List ℕ} {p : ℕ} → Spared l l p
spared_same = record { long = refl; nodes = λ i h. refl; rest = λ i h. refl }

pub spared_then : {k l m : List ℕ} {p : ℕ} → Spared k l p → Spared l m p → Spared k m p
spared_then v w = record {
  long = w.long ∙ v.long;
  nodes = λ i h. w.nodes i h ∙ v.nodes i h;
  rest = λ i h. w.rest i h ∙ v.rest i h;
}

-- a word of regions 1 to 3
spared_set : (l : List ℕ) (p i v : ℕ) → p ≤ i → i < 4 * p → Spared l (set l i v) p
spared_set l p i v h g = record {
  long = length-set l i v;
  nodes = λ j k. get_or-set_other l i j v 0 (λ e. omega arith);
  rest = λ j k. get_or-set_other l i j v 0 (λ e. omega arith);
}

-- the buckets are emptied
pub emptied : {old now : List ℕ} {p : ℕ} → 0 < p → 4 * p ≤ length old → now ≡ zero_part old (3 * p) (4 * p) → Bucketed now p [] × Spared old now p
unfolding last_in
emptied {old = old} {p = p} some wide e =
    let order : 3 * p ≤ 4 * p = omega arith in
    rw e (
      record {
        some = some;
        wide = omega (arith, part_length old (3 * p) (4 * p) order wide);
        listed = record { fits = omega arith; sets = λ i k. absurd (omega arith) };
        before = λ i k. absurd (omega arith);
        last = λ h k. part_zero old (3 * p) (4 * p) order wide (3 * p + h) (omega arith) (omega arith);
      },
      record {
        long = part_length old (3 * p) (4 * p) order wide;
        nodes = λ i h. part_below old (3 * p) (4 * p) order wide i (omega arith);
        rest = part_above old (3 * p) (4 * p) order wide;
      },
    )

-- ---- adding

pub note_known : (l : List ℕ) (x : ℕ) → true ≡ any (eqb x) l → note l x ≡ l
unfolding note
note_known l x e = rw (← e, note)

pub note_fresh : (l : List ℕ) (x : ℕ) → false ≡ any (eqb x) l → note l x ≡ l ++ (x ∷ [])
unfolding note
note_fresh l x e = rw (← e, note)

-- note never shortens
pub note_length : (l : List ℕ) (x : ℕ) → length l ≤ length (note l x)
note_length l x = go (two (any (eqb x) l))
  where
    go : (any (eqb x) l ≡ true) ⊎ (any (eqb x) l ≡ false) → length l ≤ length (note l x)
    go (inl e) = omega (arith, ap (λ (m : List ℕ). length m) (note_known l x (sym e)))
    go (inr e) = omega (arith, ap (λ (m : List ℕ). length m) (note_fresh l x (sym e)), length-append l (x ∷ []))

-- the table with x put at the end
abbrev pub put_in : List ℕ → ℕ → ℕ → ℕ → ℕ → List ℕ
put_in parts p n x h = set (set (set parts (p + n) x) (2 * p + n) (get_or parts (3 * p + h) 0)) (3 * p + h) (n + 1)

module _ (parts : List ℕ) (p n x h : ℕ) (room : n < p) (bucket : h < p) where
  pub spared_put : Spared parts (put_in parts p n x h) p
  spared_put = spared_then (spared_set parts p (p + n) x (omega arith) (omega arith))
      (spared_then (spared_set (set parts (p + n) x) p (2 * p + n) (get_or parts (3 * p + h) 0) (omega arith) (omega arith))
      (spared_set (set (set parts (p + n) x) (2 * p + n) (get_or parts (3 * p + h) 0)) p (3 * p + h) (n + 1) (omega arith) (omega arith)))

  -- the words of each region
  put_set : (i : ℕ) → i ≤ n → get_or (put_in parts p n x h) (p + i) 0 ≡ get_or (set parts (p + n) x) (p + i) 0
  put_set i g =
      get_or-set_other (set (set parts (p + n) x) (2 * p + n) (get_or parts (3 * p + h) 0)) (3 * p + h) (p + i) (n + 1) 0 (λ e. omega arith)
      ∙ get_or-set_other (set parts (p + n) x) (2 * p + n) (p + i) (get_or parts (3 * p + h) 0) 0 (λ e. omega arith)

  put_before : (i : ℕ) → i < n → get_or (put_in parts p n x h) (2 * p + i) 0 ≡ get_or parts (2 * p + i) 0
  put_before i g =
      get_or-set_other (set (set parts (p + n) x) (2 * p + n) (get_or parts (3 * p + h) 0)) (3 * p + h) (2 * p + i) (n + 1) 0 (λ e. omega arith)
      ∙ get_or-set_other (set parts (p + n) x) (2 * p + n) (2 * p + i) (get_or parts (3 * p + h) 0) 0 (λ e. omega arith)
      ∙ get_or-set_other parts (p + n) (2 * p + i) x 0 (λ e. omega arith)

  put_other : (g : ℕ) → g ≢ h → get_or (put_in parts p n x h) (3 * p + g) 0 ≡ get_or parts (3 * p + g) 0
  put_other g d =
      get_or-set_other (set (set parts (p + n) x) (2 * p + n) (get_or parts (3 * p + h) 0)) (3 * p + h) (3 * p + g) (n + 1) 0 (λ e. d (omega arith))
      ∙ get_or-set_other (set parts (p + n) x) (2 * p + n) (3 * p + g) (get_or parts (3 * p + h) 0) 0 (λ e. omega arith)
      ∙ get_or-set_other parts (p + n) (3 * p + g) x 0 (λ e. omega arith)

  module _ (wide : 4 * p ≤ length parts) where
    long : length (set (set parts (p + n) x) (2 * p + n) (get_or parts (3 * p + h) 0)) ≡ length parts
    long = length-set (set parts (p + n) x) (2 * p + n) (get_or parts (3 * p + h) 0) ∙ length-set parts (p + n) x

    put_this : get_or (put_in parts p n x h) (p + n) 0 ≡ x
    put_this = put_set n (omega arith) ∙ get_or-set_same parts (p + n) x 0 (omega arith)

    put_link : get_or (put_in parts p n x h) (2 * p + n) 0 ≡ get_or parts (3 * p + h) 0
    put_link =
        get_or-set_other (set (set parts (p + n) x) (2 * p + n) (get_or parts (3 * p + h) 0)) (3 * p + h) (2 * p + n) (n + 1) 0 (λ e. omega arith)
        ∙ get_or-set_same (set parts (p + n) x) (2 * p + n) (get_or parts (3 * p + h) 0) 0 (omega (arith, length-set parts (p + n) x))

    put_last : get_or (put_in parts p n x h) (3 * p + h) 0 ≡ n + 1
    put_last = get_or-set_same (set (set parts (p + n) x) (2 * p + n) (get_or parts (3 * p + h) 0)) (3 * p + h) (n + 1) 0 (omega (arith, long))

-- x at the end of the list, in its bucket
module _ (parts : List ℕ) (p : ℕ) (l : List ℕ) (f : Bucketed parts p l) (n x h : ℕ) (room : n < p) (long_is : length l ≡ n) (its : h ≡ bucket_of x p) where
  abbrev more : List ℕ
  more = l ++ (x ∷ [])

  bucket : h < p
  bucket = rw its (bucket_lt x p f.some)

  more_length : length more ≡ n + 1
  more_length = length-append l (x ∷ []) ∙ omega (arith, long_is)

  more_old : (i : ℕ) → i < n → get_or more i 0 ≡ get_or l i 0
  more_old i g = get_or-append l (x ∷ []) 0 i (omega arith)

  more_new : get_or more n 0 ≡ x
  more_new = get_or_at l x [] 0 n long_is

  more_last : (g m : ℕ) → m ≤ n → last_in l p g m ≡ last_in more p g m
  more_last g m k = last_same l more p g m (λ i j. sym (more_old i (omega arith)))

  pub bucketed_put : Bucketed (put_in parts p n x h) p more
  bucketed_put = record {
    some = f.some;
    wide = omega (arith, f.wide, (spared_put parts p n x h room bucket).long);
    listed = record { fits = omega (arith, more_length); sets = λ i g. set_of_lem i (omega (arith, more_length)) (ℕ_discrete i n) };
    before = λ i g. before_of i (omega (arith, more_length)) (ℕ_discrete i n);
    last = λ g k. last_of g k (ℕ_discrete g h);
  }
    where
      set_of_lem : (i : ℕ) → i ≤ n → Dec (i ≡ n) → get_or (put_in parts p n x h) (p + i) 0 ≡ get_or more i 0
      set_of_lem i g (yes e) = rw e (put_this parts p n x h room bucket f.wide ∙ sym more_new)
      set_of_lem i g (no e) =
          put_set parts p n x h room bucket i g
          ∙ get_or-set_other parts (p + n) (p + i) x 0 (λ q. e (omega arith))
          ∙ f.listed.sets i (omega arith)
          ∙ sym (more_old i (omega arith))

      before_of : (i : ℕ) → i ≤ n → Dec (i ≡ n) → get_or (put_in parts p n x h) (2 * p + i) 0 ≡ last_in more p (bucket_of (get_or more i 0) p) i
      before_of i g (yes e) = rw (e, more_new) (put_link parts p n x h room bucket f.wide ∙ f.last h bucket ∙ rw (its, long_is) (more_last (bucket_of x p) n (omega arith)))
      before_of i g (no e) =
          put_before parts p n x h room bucket i (omega arith)
          ∙ f.before i (omega arith)
          ∙ more_last (bucket_of (get_or l i 0) p) i g
          ∙ ap (λ (y : ℕ). last_in more p (bucket_of y p) i) (sym (more_old i (omega arith)))

      last_of : (g : ℕ) → g < p → Dec (g ≡ h) → get_or (put_in parts p n x h) (3 * p + g) 0 ≡ last_in more p g (length more)
      last_of g k (yes e) =
          let m : length more ≡ suc n = omega (arith, more_length) in
          rw (e, m) (put_last parts p n x h room bucket f.wide ∙ sym (last_here more p h n (ap (λ (y : ℕ). bucket_of y p) more_new ∙ sym its) ∙ omega arith))
      last_of g k (no e) =
          let m : length more ≡ suc n = omega (arith, more_length) in
          put_other parts p n x h room bucket g e
          ∙ f.last g k
          ∙ rw (long_is, m) (more_last g n (omega arith) ∙ sym (last_past more p g n (λ q. e (sym q ∙ ap (λ (y : ℕ). bucket_of y p) more_new ∙ sym its))))

-- what adding answers: x is there; it is new and has room; it is new and has none
module _ (parts : List ℕ) (p : ℕ) (l : List ℕ) (f : Bucketed parts p l) (n x : ℕ) (long_is : length l ≡ n) where
  pub collected_old : true ≡ any (eqb x) l → Collected parts p (note l x) (Some n)
  collected_old e = rw (note_known l x e) (f, long_is)

  pub collected_new : false ≡ any (eqb x) l → n < p → (h : ℕ) → h ≡ bucket_of x p → Collected (put_in parts p n x h) p (note l x) (Some (n + 1))
  collected_new e room h its = rw (note_fresh l x e) (bucketed_put parts p l f n x h room long_is its, more_length parts p l f n x h room long_is its)

  pub collected_over : false ≡ any (eqb x) l → p ≤ n → Collected parts p (note l x) None
  collected_over e full = rw (note_fresh l x e) (omega (arith, length-append l (x ∷ [])))
