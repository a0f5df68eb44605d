pub mod CarriersLaws
