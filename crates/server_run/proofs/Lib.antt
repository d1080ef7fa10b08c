-- The laws of rehearsals.
pub mod PlanLaws
pub mod EndingLaws
pub mod DeliveryLaws
pub mod GrammarLaws
