-- What a seat knows and holds after each step of a call. A party's seat knows an account a, and holds some slots: it is (Party a, held).
use Rattle.std.proofs.Common.{◌≡◌, ℕ, ◌+◌, ◌<◌, [], ◌∷◌, set, refl, sym, ap, ◌∙◌, subst, Option, Some, None}
use mathlib.Core.Path.{Path}
use mathlib.Core.Option.{none}
use Rattle.atomic_table.specs.Table.{State, step, Allows, rest}
use Rattle.board_rule.specs.declared.views.Account.{Account}
use Rattle.board_rule.specs.declared.views.Moving.TheVariants.{Still, Filling, Emptying}
use Rattle.board_rule.specs.declared.views.View.{View}
use Rattle.board_rule.specs.declared.views.View.TheVariants.{Party}
use Rattle.board_rule.specs.Mailbox.{bank_of, slot_of, word_of}
use Rattle.board_rule.specs.Accounts.{account_of}
use Rattle.board_rule.specs.Steps.{arrived, lifted_to_fill, laid_down, lifted_to_take, emptied}
use Rattle.board_rule.specs.Laws.{Seated, Held, Tells}

-- the account with a new move
abbrev pub lifting : {O : Type 0} → Account O → ℕ → Account O
lifting a to = record a { moving = Filling to }

abbrev pub taking : {O : Type 0} → Account O → ℕ → Account O
taking a from = record a { moving = Emptying from }

module _ {O T : Type 0} where
  -- a law about a party's account holds of a seat that knows it, at the word that the code computes
  pub at_seat : (holds : State (Option T) (View O) → Type 0) (slots id by : ℕ) (m m' : Seated O T) (word word' : ℕ) (f : ℕ → ℕ) (tells : Tells O T) → Path (Seated O T) m m' → word ≡ word'
      → Allows holds slots id m' word' f (tells (step slots word' by 0 none) m') → Allows holds slots id m word f (tells (step slots word by 0 none) m)
  at_seat holds slots id by m m' word word' f tells e w h = subst (λ (z : Seated O T × ℕ). Allows holds slots id z.0 z.1 f (tells (step slots z.1 by 0 none) z.0)) (λ i. (sym e i, sym w i)) h

  -- a seat knows the account of its view
  pub knows_own : (m : Seated O T) (a : Account O) → Path (Seated O T) m (Party a, []) → Path (Seated O T) m (Party (account_of m.0), [])
  knows_own m a e = subst (λ (z : Seated O T). Path (Seated O T) z (Party (account_of z.0), [])) (sym e) refl

  pub own_account : (m : Seated O T) (a : Account O) (held : Held T) → Path (Seated O T) m (Party a, held) → Path (Account O) (account_of m.0) a
  own_account m a held e = ap (λ (z : Seated O T). account_of z.0) e

  -- what a seat is, of which a step says what its account became, and what it holds
  pub joined : (m' : Seated O T) (a a' : Account O) (held : Held T) → Path (View O) m'.0 (Party a) → Path (Account O) a a' → Path (Held T) m'.1 held → Path (Seated O T) m' (Party a', held)
  joined m' a a' held view same hold = λ i. ((view ∙ ap (λ (z : Account O). Party z) same) i, hold i)

  -- the slot that a seat took last
  pub holds_first : (m : Seated O T) (a : Account O) (slot slot' : ℕ) (x : Option T) → Path (Seated O T) m (Party a, (slot', x) ∷ []) → slot ≡ slot' → Path (Held T) m.1 ((slot, x) ∷ rest m.1)
  holds_first m a slot slot' x e same = subst (λ (z : Seated O T). Path (Held T) z.1 ((slot, x) ∷ rest z.1)) (sym e) (ap (λ (k : ℕ). (k, x) ∷ []) (sym same))

  -- the seat after an exchange of that slot
  pub after_exchange : (m m' : Seated O T) (a : Account O) (slot slot' : ℕ) (x y : Option T) → Path (Seated O T) m (Party a, (slot', x) ∷ []) → slot ≡ slot' → Path (Seated O T) m' (m.0, (slot, y) ∷ rest m.1)
      → Path (Seated O T) m' (Party a, (slot', y) ∷ [])
  after_exchange m m' a slot slot' x y e same new = new ∙ (λ i. ((e i).0, (same i, y) ∷ rest (e i).1))

  -- and what was in it
  pub was_first : (m : Seated O T) (a : Account O) (slot slot' : ℕ) (x y : Option T) → Path (Seated O T) m (Party a, (slot', x) ∷ []) → Path (Held T) m.1 ((slot, y) ∷ rest m.1) → Path (Option T) y x
  was_first m a slot slot' x y e had = ap (first x) (sym had ∙ ap (λ (z : Seated O T). z.1) e)
    where
      first : Option T → Held T → Option T
      first d [] = d
      first d (z ∷ zs) = z.1

  module _ (m m' : Seated O T) (a : Account O) (slots word found : ℕ) where
    pub after_arrive : Path (Seated O T) m (Party a, []) → arrived (step slots word 1 0 none) m found m' → Path (Seated O T) m' (Party (record a { arrivals = a.arrivals + 1 }), [])
    after_arrive e told = let h = told.1 a (ap (λ (z : Seated O T). z.0) e) in joined m' h.0 _ [] h.1 h.2 (told.0 ∙ ap (λ (z : Seated O T). z.1) e)

    pub after_lift : (to : ℕ) → Path (Seated O T) m (Party a, []) → to < a.parties → word ≡ word_of (slot_of a.number to (bank_of (a.arrivals + 1))) → lifted_to_fill (step slots word 1 0 none) m found m'
        → Path (Seated O T) m' (Party (lifting a to), (slot_of a.number to (bank_of (a.arrivals + 1)), None) ∷ [])
    after_lift to e within at told = let h = told a (ap (λ (z : Seated O T). z.0) e) in let k = h.2 to within at in
        joined m' h.0 (lifting a to) _ h.1 k.0 (k.1 ∙ ap (λ (z : Seated O T). (slot_of a.number to (bank_of (a.arrivals + 1)), None) ∷ z.1) e)

    pub after_lay : (to slot : ℕ) (mail : T) → Path (Seated O T) m (Party (lifting a to), (slot, Some mail) ∷ []) → a.moving ≡ Still → laid_down (step slots word 1 0 none) m found m'
        → Path (Seated O T) m' (Party (record a { laid = set a.laid to (a.arrivals + 1) }), [])
    after_lay to slot mail e still told = let h = told.1 (lifting a to) (ap (λ (z : Seated O T). z.0) e) in
        joined m' h.0 (record a { laid = set a.laid to (a.arrivals + 1) }) [] h.1 (h.2 to refl ∙ (λ i. record a { moving = sym still i; laid = set a.laid to (a.arrivals + 1) }))
        (told.0 ∙ ap (λ (z : Seated O T). rest z.1) e)

    -- the mail that a receiver has in its hands
    pub after_lift_to_take : (fits : O → ℕ → ℕ → ℕ → T → Type 0) (from : ℕ) → Path (Seated O T) m (Party a, []) → from < a.parties → word ≡ word_of (slot_of from a.number (bank_of a.arrivals))
        → lifted_to_take fits (step slots word 1 0 none) m found m' → (mail : T) × Path (Seated O T) m' (Party (taking a from), (slot_of from a.number (bank_of a.arrivals), Some mail) ∷ []) × fits a.occasion from a.number a.arrivals mail
    after_lift_to_take fits from e within at told = let h = told a (ap (λ (z : Seated O T). z.0) e) in let k = h.2 from within at in (
      k.1.0,
      joined m' h.0 (taking a from) _ h.1 k.0 (k.1.1 ∙ ap (λ (z : Seated O T). (slot_of from a.number (bank_of a.arrivals), Some k.1.0) ∷ z.1) e),
      k.1.2,
    )

    pub after_empty : (from slot : ℕ) → Path (Seated O T) m (Party (taking a from), (slot, None) ∷ []) → a.moving ≡ Still → emptied (step slots word 1 0 none) m found m'
        → Path (Seated O T) m' (Party (record a { taken = set a.taken from a.arrivals }), [])
    after_empty from slot e still told = let h = told.1 (taking a from) (ap (λ (z : Seated O T). z.0) e) in
        joined m' h.0 (record a { taken = set a.taken from a.arrivals }) [] h.1 (h.2 from refl ∙ (λ i. record a { moving = sym still i; taken = set a.taken from a.arrivals }))
        (told.0 ∙ ap (λ (z : Seated O T). rest z.1) e)

  -- the seat after a put: the mail is laid, and nothing else of the account has changed
  pub after_put : (m m₁ m₂ m₃ : Seated O T) (a : Account O) (to slot word slots f f' : ℕ) (mail : T) → Path (Seated O T) m (Party a, []) → a.moving ≡ Still → to < a.parties
      → slot ≡ slot_of a.number to (bank_of (a.arrivals + 1)) → word ≡ word_of (slot_of a.number to (bank_of (a.arrivals + 1))) → lifted_to_fill (step slots word 1 0 none) m f m₁
      → Path (Seated O T) m₂ (m₁.0, (slot, Some mail) ∷ rest m₁.1) → laid_down (step slots word 1 0 none) m₂ f' m₃ → Path (Seated O T) m₃ (Party (record a { laid = set a.laid to (a.arrivals + 1) }), [])
  after_put m m₁ m₂ m₃ a to slot word slots f f' mail e still within place at lift swap lay =
      let up = after_lift m m₁ a slots word f to e within at lift in
      let full = after_exchange m₁ m₂ (lifting a to) slot _ None (Some mail) up place swap in after_lay m₂ m₃ a slots word f' to _ mail full still lay

  -- the seat after a take: the mail is taken, and nothing else of the account has changed
  pub after_take : (fits : O → ℕ → ℕ → ℕ → T → Type 0) (m m₁ m₂ m₃ : Seated O T) (a : Account O) (from slot word slots f f' : ℕ) → Path (Seated O T) m (Party a, []) → a.moving ≡ Still → from < a.parties
      → slot ≡ slot_of from a.number (bank_of a.arrivals) → word ≡ word_of (slot_of from a.number (bank_of a.arrivals)) → lifted_to_take fits (step slots word 1 0 none) m f m₁
      → Path (Seated O T) m₂ (m₁.0, (slot, None) ∷ rest m₁.1) → emptied (step slots word 1 0 none) m₂ f' m₃ → Path (Seated O T) m₃ (Party (record a { taken = set a.taken from a.arrivals }), [])
  after_take fits m m₁ m₂ m₃ a from slot word slots f f' e still within place at lift swap lay =
      let up = after_lift_to_take m m₁ a slots word f fits from e within at lift in
      let out = after_exchange m₁ m₂ (taking a from) slot _ (Some up.0) None up.1 place swap in after_empty m₂ m₃ a slots word f' from _ out still lay

  -- the mail that a take gives
  pub taken_mail : (fits : O → ℕ → ℕ → ℕ → T → Type 0) (m m₁ : Seated O T) (a : Account O) (from slot word slots f : ℕ) (item : Option T) → Path (Seated O T) m (Party a, []) → from < a.parties
      → word ≡ word_of (slot_of from a.number (bank_of a.arrivals)) → lifted_to_take fits (step slots word 1 0 none) m f m₁ → Path (Held T) m₁.1 ((slot, item) ∷ rest m₁.1)
      → (mail : T) × Path (Option T) item (Some mail) × fits a.occasion from a.number a.arrivals mail
  taken_mail fits m m₁ a from slot word slots f item e within at lift had =
      let up = after_lift_to_take m m₁ a slots word f fits from e within at lift in (up.0, was_first m₁ (taking a from) slot _ (Some up.0) item up.1 had, up.2)

module _ {T : Type 0} where
  abbrev IsNothing : Option T → Type 0
  IsNothing None = Unit {0}
  IsNothing (Some x) = ⊥

  abbrev value_or : T → Option T → T
  value_or d None = d
  value_or d (Some x) = x

  pub no_mail : (item : Option T) (mail : T) → Path (Option T) item None → Path (Option T) item (Some mail) → ⊥
  no_mail item mail a b = subst IsNothing (sym a ∙ b) tt

  pub same_mail : (item : Option T) (mail value : T) → Path (Option T) item (Some mail) → Path (Option T) item (Some value) → Path T mail value
  same_mail item mail value a b = ap (value_or mail) (sym a ∙ b)
