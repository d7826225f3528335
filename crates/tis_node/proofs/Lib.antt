mod LocalSteps
mod Products
mod Rows
