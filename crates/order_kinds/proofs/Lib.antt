pub mod Hours
pub mod PriceOrder
