-- What is known of elements once the answers of their readers were taken.
use Rattle.std.specs.Prelude.{◌≡◌, Bool, List, [], ◌∷◌, ◌++◌, map, filter, Option, Some, None, Result, Ok, Err, is_some, not}
use Rattle.std.specs.List.{flat_map}
use Rattle.zi_elements.specs.Forest.{Elem}
use Rattle.zi_reading.specs.Words.{optional}
use Rattle.zi_faults.specs.Faults.{least, lesser_of}
use Rattle.zi_faults.specs.declared.fault.Fault.{Fault}
use Rattle.zi_faults.specs.declared.fault.FeedFault.{FeedFault}
use Rattle.zi_faults.specs.declared.fault.FeedFault.TheVariants.{Bad, Memory}

-- a value goes behind those so far, and a fault counts where it is the first so far
abbrev pub Notes : {X : Type 0} → Result X FeedFault → List X → Option Fault → List X → Option Fault → Type 0
Notes (Ok x) xs fault ys now = (ys ≡ xs ++ x ∷ []) × (now ≡ fault)
Notes (Err (Bad kind place)) xs fault ys now = (ys ≡ xs) × (now ≡ lesser_of fault (Some (record { kind = kind; place = place })))
Notes (Err Memory) xs fault ys now = ⊥

-- those without a fault
abbrev pub right : (Elem → Option Fault) → List Elem → List Elem
right fault_of es = filter (λ c. not (is_some (fault_of c))) es

-- the faults that elements have
abbrev pub faults_of : (Elem → Option Fault) → List Elem → List Fault
faults_of fault_of es = flat_map (λ c. optional (fault_of c)) es

-- Elements were read: the values of those without a fault went behind the values so far, and of all faults the first one counts.
pub record AreRead {X : Type 0} (fault_of : Elem → Option Fault) (value : Elem → X) (es : List Elem) (xs : List X) (fault : Option Fault) (ys : List X) (now : Option Fault) : Type 0 where
  pub values : ys ≡ xs ++ map value (right fault_of es)
  pub first : now ≡ lesser_of fault (least (faults_of fault_of es))
